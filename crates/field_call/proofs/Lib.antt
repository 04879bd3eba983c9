-- What the proofs of the call's functions share.
pub mod Results
pub mod OneAnswer
