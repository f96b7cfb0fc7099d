pub mod Order
pub mod Listing
pub mod Inner
pub mod Theorems
