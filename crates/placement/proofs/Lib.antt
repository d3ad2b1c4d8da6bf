-- What the proofs of several functions use, and the laws of placed surfels.
pub mod Points
pub mod Chained
pub mod Linked
pub mod Crowded
pub mod Tried
pub mod Seeded
pub mod Spread
pub mod Columned
pub mod Answered
