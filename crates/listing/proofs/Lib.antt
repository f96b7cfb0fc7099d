pub mod KeyOrder
pub mod Rising
pub mod Merging
pub mod Halves
pub mod Listings
pub mod Filling
pub mod Answers
