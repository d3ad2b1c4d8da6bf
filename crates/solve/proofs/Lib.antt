-- The laws of the solve, for the proofs here and for callers.
pub mod Chunked
pub mod Channelled
pub mod Lighted
pub mod Fronts
pub mod Bounced
pub mod Going
pub mod Answering
pub mod Readings
pub mod Balanced
pub mod Trimmed
pub mod Refusals
pub mod Onward
pub mod Joining
pub mod Continued
pub mod Called
