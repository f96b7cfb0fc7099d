pub mod Slots
pub mod Simplex
