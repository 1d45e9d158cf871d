-- The bits of bytes, most significant first: the definitions, then their laws.
pub mod Bits
pub mod Laws
pub mod Fields
pub mod Records
pub mod Stream
