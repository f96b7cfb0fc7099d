pub mod Few
pub mod Light
pub mod Sheets
pub mod OneRow
pub mod Slots
pub mod OneReading
pub mod Books
pub mod Comparing
