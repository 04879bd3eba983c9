-- What the proofs of the needs rest on, in the order of the passes.
pub mod KeptFront
pub mod FirstUse
pub mod Lines
pub mod OneAxis
pub mod Places
pub mod WithinDistance
-- No second outcome fits.
pub mod OneAnswer
