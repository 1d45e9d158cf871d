-- A journal as rows of bytes: what rows say, and what is stored into them.
pub mod Ring
pub mod Stored
