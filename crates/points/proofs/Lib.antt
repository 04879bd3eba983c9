-- The laws that the functions' proofs cite.
pub mod FiniteTest
pub mod QuickLength
-- No second outcome fits.
pub mod OneAnswer
