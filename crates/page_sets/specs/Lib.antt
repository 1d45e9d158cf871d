-- What a page shows of a set of modes.
pub mod Sets
