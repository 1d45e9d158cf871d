-- Laws of the chain of parents as it is gone up, and of deletion on rows.
pub mod Upward
pub mod Meeting
pub mod Rowed
pub mod Leaving
pub mod Deleted
