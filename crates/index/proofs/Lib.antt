pub mod Equality
pub mod Hash
pub mod Ring
pub mod Count
pub mod Finding
pub mod Steps
pub mod Starred
