-- The lemmas of the proofs of `room`.
pub mod Filled
