-- The words of contracts inside the crate; what a root is stands in the crate `numbers`.
pub mod Words
