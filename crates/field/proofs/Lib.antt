-- The laws that the proofs of this crate share.
pub mod RightSide
pub mod Corners
-- No second outcome fits.
pub mod OneAnswer
