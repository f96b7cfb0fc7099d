pub mod Source
pub mod Refusals
