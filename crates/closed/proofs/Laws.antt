-- Laws of these definitions: what follows from them, for proofs here and above. Nothing here must be believed.
pub mod Claims
pub mod Arcs
pub mod Bounds
pub mod Cells
pub mod Closed
pub mod Counting
pub mod Crossings
pub mod Entries
pub mod Examples
pub mod Loops
pub mod Mesh
pub mod Renumber
pub mod Sums
pub mod Tested
pub mod Turning
pub mod Vertices
