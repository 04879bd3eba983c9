-- Laws that no one function owns.
pub mod InnerRow
pub mod ApplyRows
-- No second outcome fits.
pub mod OneAnswer
