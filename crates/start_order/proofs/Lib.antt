-- The laws that the functions stand on, and what the answer says of orders.
pub mod First
pub mod Trying
pub mod Searching
pub mod Clashes
pub mod Meaning
pub mod AnyMonitor
pub mod Examples
