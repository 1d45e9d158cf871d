-- Tables and images, read and written, and what is reached from them, in the order in which the files stand on each other.
pub mod Shapes
pub mod StateTests
pub mod Images
pub mod Trips
pub mod Reached
pub mod RoundTrips
pub mod Widest
