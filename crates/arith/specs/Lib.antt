-- The words of contracts inside the crate.
pub mod Words
