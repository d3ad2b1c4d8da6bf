-- The definitions that the contracts of `stored_grid` cite.
pub mod Lent
pub mod Stores
