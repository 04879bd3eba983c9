-- Document 01's blur: the definitions, then what callers and proofs know of them.
pub mod Blur
pub mod Words
pub mod Laws
