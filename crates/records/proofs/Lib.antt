-- The laws of records, their columns, and a reset of them.
pub mod Columned
