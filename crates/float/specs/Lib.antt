-- The definitions that the contracts of `float` cite.
pub mod Arithmetic
pub mod Column
pub mod Sign
pub mod Order
pub mod Cells
pub mod Root
pub mod RootSteps
