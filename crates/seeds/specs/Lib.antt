-- The definitions that the contracts of `seeds` cite, and the sequence that its laws speak of.
pub mod Seeds
pub mod Surfels
pub mod Mirrored
