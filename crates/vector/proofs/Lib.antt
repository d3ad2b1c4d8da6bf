-- What the proofs of several functions use, and the laws that other crates cite.
pub mod Items
pub mod Sums
pub mod Replaced
pub mod Puts
pub mod Stored
pub mod Readings
pub mod Cut
