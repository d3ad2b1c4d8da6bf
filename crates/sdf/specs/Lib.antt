-- The definitions that the contracts of `sdf` cite.
pub mod Axis
pub mod Solids
pub mod Cylinder
pub mod Cone
pub mod Distance
pub mod Beyond
