-- Laws of these definitions: what follows from them, for proofs here and above. Nothing here must be believed.
pub mod Order
pub mod Tabulate
pub mod Fill
pub mod Part
pub mod Prefix
pub mod Padded
pub mod Fold
pub mod OneAnswer
