-- The lines of an access page: their sizes and sums.
pub mod Sizes
