-- The laws of a report, for the proofs here and for a reader.
pub mod Fitting
pub mod Bounced
pub mod Gathered
pub mod Texts
pub mod Printed
