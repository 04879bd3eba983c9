-- The laws that the functions' proofs cite.
pub mod Marking
pub mod FirstUse
-- No second outcome fits.
pub mod OneAnswer
