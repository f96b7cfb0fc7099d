pub mod Spreading
pub mod Inner
