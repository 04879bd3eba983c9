-- Document 01's levels of the Solver: the definitions, then what is proved of them.
pub mod Levels
pub mod Words
pub mod Slices
pub mod Laws
