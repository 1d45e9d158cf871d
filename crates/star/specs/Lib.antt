-- The star property over some of the subjects, the objects that it passes over, and lists of objects.
pub mod Between
pub mod Idle
pub mod Lists
