-- The laws of the checks, for the proofs here and for callers.
pub mod Every
pub mod Bounded
pub mod Starts
pub mod Joined
pub mod Agree
pub mod Refused
pub mod Decimals
