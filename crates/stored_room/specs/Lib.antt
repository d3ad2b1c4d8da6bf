-- The definitions that the contracts of `stored_room` cite.
pub mod Lent
pub mod Stores
