-- What the proofs of several functions use.
pub mod Apart
pub mod Rounded
pub mod Packed
pub mod Zeros
pub mod Products
pub mod Quotients
