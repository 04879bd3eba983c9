-- That no second outcome fits.
pub mod OneAnswer
