-- What the proofs of several functions use.
pub mod Cut
pub mod Named
pub mod Read
pub mod Tables
