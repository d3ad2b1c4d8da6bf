-- The definitions that the contracts of `stored` cite.
pub mod Stores
