-- Laws of these definitions: what follows from them, for proofs here and above. Nothing here must be believed.
pub mod Ends
