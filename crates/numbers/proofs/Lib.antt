-- No second outcome fits.
pub mod OneAnswer
pub mod Laws
