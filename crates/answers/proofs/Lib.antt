-- What a verdict that is tested tells, and that no second outcome fits.
pub mod Verdicts
pub mod OneAnswer
