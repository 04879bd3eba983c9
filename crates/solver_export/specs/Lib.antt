-- A word of this crate's contracts.
pub mod Words
