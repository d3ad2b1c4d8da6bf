-- The laws of clusters, for the proofs here and for callers.
pub mod Numbered
pub mod Radix
pub mod Runs
pub mod Stored
pub mod Gathered
pub mod Emitted
pub mod Answered
pub mod Cover
