-- The facts hold.
pub mod Held
