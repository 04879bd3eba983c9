-- What a call for the field leaves, at its end and before.
pub mod Outcome
pub mod Words
