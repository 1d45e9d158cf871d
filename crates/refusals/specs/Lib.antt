-- The causes of refusals as propositions, in rows, and the first of them.
pub mod First
pub mod Causes
