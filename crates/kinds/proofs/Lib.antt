-- Requests on the rows of a unit: what they store, and how their checks make up the rule's answer.
pub mod Effects
pub mod Answers
pub mod StoreExamples
pub mod Plain
