-- Words of the laws on these definitions: the records and functions that they speak of. The laws are in proofs/Laws. Nothing here must be believed.
pub mod Claims
pub mod Arcs
pub mod Cells
pub mod Closed
pub mod Entries
pub mod Loops
pub mod Turning
