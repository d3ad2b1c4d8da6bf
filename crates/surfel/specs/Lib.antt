-- The definitions that the contracts of `surfel` cite.
pub mod Weighing
pub mod Gathering
pub mod Needs
pub mod Checks
pub mod Answers
