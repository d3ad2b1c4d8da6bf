-- What the proofs of several functions use, and the laws that other crates cite.
pub mod Joined
pub mod Widths
pub mod Examples
