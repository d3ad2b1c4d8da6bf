-- The definitions that the contracts of `interflect` cite.
pub mod Scenes
pub mod Placing
pub mod Surfels
pub mod Rows
pub mod Solves
pub mod Reading
pub mod Reporting
