-- Document 01's Field: the definitions, then what callers and proofs know of them.
pub mod Field
pub mod Words
pub mod Laws
