-- Laws of the machine that the proofs of more than one function use.
pub mod Machine
