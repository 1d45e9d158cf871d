-- The bytes of an image without a live object.
pub mod Begun
