pub mod Slots
pub mod Inner
pub mod Theorems
