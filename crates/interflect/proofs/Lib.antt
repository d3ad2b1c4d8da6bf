-- The lemmas of the proofs of `interflect`.
pub mod Told
