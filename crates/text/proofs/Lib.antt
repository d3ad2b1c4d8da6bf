-- What the proofs of several functions use, and the laws that other crates cite.
pub mod Spelling
pub mod Stores
pub mod Held
pub mod Words
pub mod Laws
pub mod Examples
