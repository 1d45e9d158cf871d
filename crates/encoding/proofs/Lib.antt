-- The number of a request and its bytes.
pub mod Word
