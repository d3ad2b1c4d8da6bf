-- The definitions that the contracts of `vector` cite, and those over vectors that the crates above share.
pub mod Vector
pub mod Tangent
pub mod Flat
pub mod Fold
pub mod Halton
