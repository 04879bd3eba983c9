-- Laws of these definitions: what follows from them, for proofs here and above. Nothing here must be believed.
pub mod AllPoints
pub mod UsableLoop
pub mod UsableFinite
pub mod SquaresHeld
pub mod Examples
