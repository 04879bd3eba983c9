-- What the proofs of the call's functions share.
pub mod Order
pub mod Showing
pub mod Results
pub mod OneAnswer
