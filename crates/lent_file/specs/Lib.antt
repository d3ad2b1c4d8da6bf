-- The definitions that the contracts of `lent_file` cite.
pub mod Lent
