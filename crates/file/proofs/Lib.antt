-- The laws of a room file, for the proofs here and for the crates above.
pub mod Bytes
pub mod Entries
pub mod Listed
pub mod Laid
pub mod Accepted
