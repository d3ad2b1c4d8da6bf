-- What the proofs of several functions use, and the laws that other crates cite.
pub mod Outside
pub mod Accepted
