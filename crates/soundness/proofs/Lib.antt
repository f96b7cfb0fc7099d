pub mod Counting
pub mod Seeking
pub mod Coordinates
pub mod Weighing
pub mod Deciding
