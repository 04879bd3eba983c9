-- The whole call, and its stages: the definitions, what the stages ask and leave, then laws.
pub mod Reconstruction
pub mod FieldAlone
pub mod Words
pub mod Laws
