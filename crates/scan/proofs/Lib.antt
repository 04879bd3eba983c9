-- What the proofs of the stages and of the two calls share.
pub mod PutTogether
pub mod MeshMade
pub mod ExactParts
pub mod OneAnswer
