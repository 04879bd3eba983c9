-- The words of the first pass's contracts.
pub mod Words
pub mod Laws
