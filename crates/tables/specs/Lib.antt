-- The definitions that the contracts of `tables` cite.
pub mod Tables
pub mod Checks
