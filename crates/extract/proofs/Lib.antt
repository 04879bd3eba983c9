-- The laws that the functions' proofs cite.
pub mod FirstPlace
-- No second outcome fits.
pub mod OneAnswer
