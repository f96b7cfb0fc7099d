pub mod Report
pub mod Theorems
pub mod Inner
pub mod Worked
