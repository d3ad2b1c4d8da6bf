-- The definitions that the contracts of `file` cite, and those over a room file that the crates above share.
pub mod Words
pub mod Blocks
pub mod Columns
pub mod Rooms
pub mod Checks
pub mod Needs
