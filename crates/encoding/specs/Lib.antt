-- The fields of a request in one number.
pub mod Word
