pub mod Limits
pub mod Lattice
pub mod Weight
pub mod Points
pub mod Refusals
pub mod Position
pub mod Theorems
pub mod Starred
