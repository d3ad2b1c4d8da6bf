-- The definitions that the contracts of `links` cite.
pub mod Pairs
pub mod Scaling
pub mod Needs
