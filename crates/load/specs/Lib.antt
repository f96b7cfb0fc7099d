pub mod Loading
pub mod Numbering
pub mod Theorems
pub mod Inner
pub mod Worked
