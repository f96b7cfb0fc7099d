pub mod Seeking
pub mod Raising
pub mod Addition
