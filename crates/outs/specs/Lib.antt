-- The definitions that the contracts of `outs` cite.
pub mod Outs
pub mod Scenes
pub mod Surfels
pub mod Rows
pub mod Reading
