-- The seven slices as one outcome, and that no second outcome fits.
pub mod SameSlices
pub mod OneAnswer
