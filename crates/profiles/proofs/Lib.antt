-- Laws that the proofs of more than one function use.
pub mod Below
pub mod Fresh
