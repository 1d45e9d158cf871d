-- What the machine's bits say of sets of modes.
pub mod Sets
