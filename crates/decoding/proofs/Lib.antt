-- The fields of a byte string by the number in its first 48 bits.
pub mod Word
