-- The definitions that the contracts of `transfer` cite, and those over a room that the crates above share.
pub mod Room
pub mod Checks
pub mod Needs
