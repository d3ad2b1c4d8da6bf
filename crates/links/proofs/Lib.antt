-- What the proofs of several functions use, and the laws that other crates cite.
pub mod Faced
pub mod Scaled
