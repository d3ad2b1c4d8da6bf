-- The definitions that the contracts of `replay` cite.
pub mod Lines
pub mod Vectors
pub mod Words
