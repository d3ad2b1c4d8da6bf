-- What the proofs of several functions use, and the laws that other crates cite.
pub mod Numbers
pub mod Signs
pub mod Nans
pub mod Casts
pub mod Whole
pub mod Rounding
pub mod Roots
pub mod Patterns
pub mod Split
pub mod Cases
pub mod Nearness
pub mod Readings
