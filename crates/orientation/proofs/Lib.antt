-- What the proofs of several needs share.
pub mod EveryOther
-- No second outcome fits.
pub mod OneAnswer
