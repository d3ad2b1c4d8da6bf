-- The definitions that the contracts of `placement` cite.
pub mod Lent
pub mod Kept
pub mod Checks
pub mod Answers
pub mod Chains
pub mod Needs
