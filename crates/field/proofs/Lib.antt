-- What the proofs of several functions use, and the laws that other crates cite.
pub mod Chosen
pub mod Tests
pub mod Readings
pub mod Passed
