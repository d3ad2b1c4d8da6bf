-- The definitions that the contracts of `text` cite.
pub mod Digits
pub mod Words
pub mod Held
