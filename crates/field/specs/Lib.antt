-- The definitions that the contracts of `field` cite.
pub mod Nearest
pub mod Gradient
pub mod Projection
