-- The access page: its size, its sums, what is printed and what is refused.
pub mod Sizes
pub mod Paging
pub mod Printed
pub mod AnyOrder
pub mod Refusals
pub mod Examples
