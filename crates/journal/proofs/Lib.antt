-- Laws of a journal as rows, in the order in which the files stand on each other.
pub mod Entries
pub mod Journals
pub mod RingExamples
pub mod Steps
