-- Laws of sums, what an order of a list is, and elements by their places.
pub mod Sums
pub mod Orders
pub mod Places
