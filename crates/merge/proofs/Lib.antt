pub mod Rows
pub mod Refusing
pub mod Merging
