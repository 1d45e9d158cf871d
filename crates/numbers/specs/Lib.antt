-- The numbers that C gets where they are no replies.
pub mod Comparing
pub mod Counts
pub mod Orders
