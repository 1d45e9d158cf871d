-- What the machine's bits say of a set within another.
pub mod Sets
