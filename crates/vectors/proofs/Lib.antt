-- A law that no one function owns.
pub mod Advancing
-- No second outcome fits.
pub mod OneAnswer
pub mod Laws
