-- The tables that the edges of a profile begin with.
pub mod Tables
