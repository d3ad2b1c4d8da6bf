-- The laws of a grid, for the proofs here and for callers.
pub mod Numbered
pub mod Walked
pub mod Around
pub mod Slices
pub mod Nearby
pub mod Answered
pub mod Handed
pub mod Built
