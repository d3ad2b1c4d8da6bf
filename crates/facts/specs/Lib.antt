-- The facts and what they speak of.
pub mod Facts
