-- Document 01's Arithmetic: the definitions, then what is proved of them.
pub mod Constants
pub mod Arithmetic
pub mod Ieee754
pub mod Opposite
pub mod Whole
pub mod Laws
