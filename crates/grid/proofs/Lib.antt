-- Laws that no one function owns.
pub mod Counts
-- No second outcome fits.
pub mod OneAnswer
