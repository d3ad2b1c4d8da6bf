-- What the proofs of several functions use, and the laws that other crates cite.
pub mod Linked
pub mod Refusing
pub mod Rowwise
pub mod Parted
pub mod Ascending
