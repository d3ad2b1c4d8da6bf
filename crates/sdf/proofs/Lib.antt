-- What the definitions say.
pub mod Ends
pub mod Spared
pub mod Readings
