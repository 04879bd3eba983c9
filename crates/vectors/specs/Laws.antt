-- Words of the laws on these definitions: the records and functions that they speak of. The laws are in proofs/Laws. Nothing here must be believed.
pub mod Dotted
