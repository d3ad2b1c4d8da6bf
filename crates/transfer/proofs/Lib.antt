-- What the tests of a room that is not refused say of it, for callers.
pub mod Acceptance
