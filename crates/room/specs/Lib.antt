-- The definitions that the contracts of `room` cite.
pub mod Lent
pub mod Answers
