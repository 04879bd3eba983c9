-- The laws that the proofs of this crate share.
pub mod Offset
pub mod Moved
pub mod Terms
pub mod Runs
pub mod Axes
-- No second outcome fits.
pub mod OneAnswer
