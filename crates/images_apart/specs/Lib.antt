-- What is told of two images.
pub mod Apart
