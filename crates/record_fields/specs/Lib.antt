-- What a writer of bits is to the stream in its buffer.
-- Assumes nothing.
pub mod Writers
