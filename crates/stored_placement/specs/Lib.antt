-- The definitions that the contracts of `stored_placement` cite.
pub mod Lent
pub mod Stores
