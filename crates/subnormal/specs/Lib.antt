-- The definitions that the contracts of `subnormal` cite.
pub mod Parts
pub mod Packing
