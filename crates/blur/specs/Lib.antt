pub mod Blur
pub mod Sheet
pub mod Theorems
pub mod Inner
pub mod Worked
