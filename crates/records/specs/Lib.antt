-- The definitions that the contracts of `records` cite.
pub mod Columns
pub mod Needs
