-- The definitions that the contracts of `asked_grid` cite.
pub mod Answers
