-- The definitions that the contracts of `accept` cite.
pub mod Every
pub mod Limits
pub mod Tables
pub mod Ranges
pub mod Refusal
