-- Document 01's dot product and a step's sums: the definitions, words for contracts, then what is proved of them.
pub mod Vectors
pub mod Words
pub mod Laws
