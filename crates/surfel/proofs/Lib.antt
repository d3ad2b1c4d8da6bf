-- The laws of the reading, for the proofs here and for callers.
pub mod Compared
pub mod Summed
pub mod Acceptance
pub mod Readings
