-- Document 01's Solver up to one level: the definitions, then what is proved of them.
pub mod Solver
pub mod Words
pub mod Runs
pub mod Boundary
pub mod Laws
