-- The definitions that the contracts of `report` cite.
pub mod Light
pub mod Report
pub mod Needs
