-- The definitions that the contracts of `stored_rows` cite.
pub mod Lent
pub mod Written
