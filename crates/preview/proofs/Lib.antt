-- The laws that the functions' proofs cite.
pub mod AnyMesh
pub mod Digits
