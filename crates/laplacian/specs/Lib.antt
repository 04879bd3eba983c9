-- Document 01's A x: the definitions, then a word for the contracts inside.
pub mod Laplacian
pub mod Words
