-- The definitions that the contracts of `clusters` cite.
pub mod Keys
pub mod Lent
pub mod Left
pub mod Grouping
pub mod Checks
pub mod Answers
pub mod Sorting
pub mod Needs
pub mod Made
