-- The demands proved of whatever meets the contract, and what it says against the cheats that 01 names.
pub mod Demand1
pub mod Demand2
pub mod ClosedMesh
pub mod Demand3
pub mod NanOffset
pub mod Cheats
