-- No second outcome fits: each public function, in the order of the sources. A mesh's size is told by its two counts. Assumes nothing.
use mathlib.Core.Path.{◌≡◌, refl}
use Rattle.lists.specs.OneOutcome.{OneOutcome}
use Rattle.lists.specs.Laws.OneAnswer.{same, ◌&◌}
use Rattle.meshes.specs.declared.MeshSize.{MeshSize}
use Rattle.meshes.specs.contracts as contract
use Rattle.meshes.proofs as fn

pub by_counts : {a b : MeshSize} → a.vertices ≡ b.vertices → a.faces ≡ b.faces → a ≡ b
by_counts vertices faces = λ i. record { vertices = vertices i; faces = faces i }

-- ---- faces.rt

pub read_face : OneOutcome contract.faces.read_face.ended fn.faces.read_face.Reads.Post
read_face κs args o o' p q = same p q & refl

pub write_face : OneOutcome contract.faces.write_face.ended fn.faces.write_face.Reads.Post
write_face κs args o o' p q = refl & same p q & refl

-- ---- vertex_box.rt

pub bounds : OneOutcome contract.vertex_box.bounds.ended fn.vertex_box.bounds.Reads.Post
bounds κs args o o' p q = same p q & refl

-- ---- vertices.rt

pub triple_at : OneOutcome contract.vertices.triple_at.ended fn.vertices.triple_at.Reads.Post
triple_at κs args o o' p q = same p q & refl

pub vertex_at : OneOutcome contract.vertices.vertex_at.ended fn.vertices.vertex_at.Reads.Post
vertex_at κs args o o' p q = same p q & refl
