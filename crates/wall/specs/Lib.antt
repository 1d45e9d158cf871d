-- The wall over some of the subjects, and the company numbers of several objects joined in one.
pub mod Between
pub mod Joined
pub mod Lists
