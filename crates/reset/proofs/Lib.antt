-- What a reset that is not refused was handed.
pub mod Stored
