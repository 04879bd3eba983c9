-- Laws that no one function owns.
pub mod NanRun
pub mod Steps
pub mod SameRuns
-- No second outcome fits.
pub mod OneAnswer
