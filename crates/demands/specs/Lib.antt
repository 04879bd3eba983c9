-- The three demands of the mission, of what a call leaves: definitions. Their proofs are in proofs/.
pub mod Call
pub mod Demand1
pub mod Demand2
pub mod Demand3
