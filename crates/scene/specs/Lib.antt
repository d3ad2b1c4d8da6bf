-- The definitions that the contracts of `scene` cite.
pub mod Marching
pub mod Shading
pub mod Directions
pub mod Opening
pub mod Answers
