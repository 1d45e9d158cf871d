-- Sums, and the orders of a list.
pub mod Sums
pub mod Orders
