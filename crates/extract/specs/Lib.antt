-- Extraction's mesh: what is claimed of it, and the words of the second pass's contracts. The definitions are in the crate `cells`.
pub mod Words
pub mod Laws
