pub mod Keys
pub mod Search
pub mod Indexed
pub mod Theorems
pub mod Starred
