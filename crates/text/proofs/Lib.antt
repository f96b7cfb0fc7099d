pub mod Worked
pub mod Lines
pub mod Decimal
pub mod Numbers
pub mod Theorems
