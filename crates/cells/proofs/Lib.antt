-- The laws that the functions' proofs cite.
pub mod Points
pub mod FromFn
pub mod Walking
-- No second outcome fits.
pub mod OneAnswer
