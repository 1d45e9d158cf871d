-- Lists of task records.
pub mod Tasks
