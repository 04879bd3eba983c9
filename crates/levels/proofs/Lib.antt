-- Laws that no one function owns.
pub mod Fronts
pub mod OneAfterOther
pub mod SameSlices
-- No second outcome fits.
pub mod OneAnswer
pub mod Laws
