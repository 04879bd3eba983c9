-- A mesh in flat lists and the box of its vertices: the definitions, then what is proved of them.
pub mod FlatMesh
pub mod BoxOfVertices
pub mod Laws
