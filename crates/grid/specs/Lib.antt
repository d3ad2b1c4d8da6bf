-- The definitions that the contracts of `grid` cite.
pub mod Cells
pub mod Lent
pub mod Visiting
pub mod Rows
pub mod Building
pub mod Needs
pub mod Checks
pub mod Answers
