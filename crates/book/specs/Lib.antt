pub mod Book
pub mod Numbers
pub mod Withdraw
pub mod Calls
pub mod Heads
pub mod Theorems
pub mod Worked
