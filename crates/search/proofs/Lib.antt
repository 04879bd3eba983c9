-- The laws that the functions' proofs cite.
pub mod NearestRoots
pub mod SomeUsable
pub mod Carry
pub mod Gaps
-- No second outcome fits.
pub mod OneAnswer
