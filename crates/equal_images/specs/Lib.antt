-- Lists of requests that are well formed for a monitor of a profile.
pub mod Inputs
