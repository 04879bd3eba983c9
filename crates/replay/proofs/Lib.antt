-- No second outcome fits.
pub mod OneAnswer
