-- What the proofs of several functions use, and the laws that other crates cite.
pub mod Digits
pub mod Short
pub mod Mirroring
pub mod Exact
pub mod Surface
