-- The definitions that the contracts of `solve` cite, and those that its laws speak of: the balance, calls in a row, and the continuation law.
pub mod Bounce
pub mod Channels
pub mod Held
pub mod Lit
pub mod Runs
pub mod Balance
pub mod Answers
pub mod Calls
pub mod Continuation
