-- The lines of an access page as bytes.
pub mod Lines
