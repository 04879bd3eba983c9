-- The slices that a call is lent, and what its ending leaves in them.
pub mod Slices
pub mod Ending
