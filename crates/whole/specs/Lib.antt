pub mod Size
pub mod Floor
pub mod Rounding
pub mod Word
pub mod Sum
pub mod Lists
