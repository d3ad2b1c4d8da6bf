-- The definitions that the contracts of `formfactor` cite.
pub mod Linking
pub mod Lent
pub mod Building
pub mod Needs
pub mod Checks
pub mod Answers
pub mod Parts
