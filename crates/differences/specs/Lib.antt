-- What the code of this crate computes, part by part, over the definition `distinguish`.
pub mod Sequences
pub mod Records
