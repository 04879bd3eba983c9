-- What a call leaves, at its end and before.
pub mod Outcome
pub mod Words
