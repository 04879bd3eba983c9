-- The box of the vertices of document 01's "What crosses the counter". Definitions only; assumes nothing.
use Rattle.std.specs.Prelude.{cond, List, [], ◌∷◌, ℕ, zero, suc, Float}
use Rattle.std.specs.Float.Ieee.{lt}
use Rattle.lists.specs.Lists.{at, zero32}
use Rattle.meshes.specs.declared.VertexBox.{VertexBox}
use Rattle.meshes.specs.FlatMesh.{vertex_count, vertex_at}

-- a coordinate is replaced when a later one is strictly smaller (low) or larger (high)
abbrev pub lower : Float → Float → Float
lower m x = cond (lt x m) x m

abbrev pub higher : Float → Float → Float
higher m x = cond (lt m x) x m

unfoldable pub reached_by : VertexBox → List Float → VertexBox
reached_by b p =
    record {
      low = lower (at b.low 0) (at p 0) ∷ lower (at b.low 1) (at p 1) ∷ lower (at b.low 2) (at p 2) ∷ [];
      high = higher (at b.high 0) (at p 0) ∷ higher (at b.high 1) (at p 1) ∷ higher (at b.high 2) (at p 2) ∷ [];
    }

-- the box starts at vertex 0; it is that of the vertices 0 to i
unfoldable pub box_to : List Float → ℕ → VertexBox
box_to vertices zero = record { low = vertex_at vertices 0; high = vertex_at vertices 0 }
box_to vertices (suc i) = reached_by (box_to vertices i) (vertex_at vertices (suc i))

-- of so many vertices; no vertex has the box of zeros
abbrev pub box_for : List Float → ℕ → VertexBox
box_for vertices zero = record { low = zero32 ∷ zero32 ∷ zero32 ∷ []; high = zero32 ∷ zero32 ∷ zero32 ∷ [] }
box_for vertices (suc n) = box_to vertices n

unfoldable pub box_of : List Float → VertexBox
box_of vertices = box_for vertices (vertex_count vertices)
