-- What the proofs of several functions use, and the laws that other crates cite.
pub mod Turns
pub mod Rays
pub mod Evals
pub mod Directions
pub mod Readings
