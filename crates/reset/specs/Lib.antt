-- The definitions that the contracts of `reset` cite.
pub mod Resetting
