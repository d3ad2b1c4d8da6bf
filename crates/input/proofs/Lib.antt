-- What the proofs of the programs use.
pub mod Buffers
