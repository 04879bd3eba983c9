-- The law that the functions' proofs cite.
pub mod Signed
-- No second outcome fits.
pub mod OneAnswer
