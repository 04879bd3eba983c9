-- `meshes::VertexBox::reach` meets its contract, a coordinate at a time. Assumes nothing.
use Rattle.meshes.specs.BoxOfVertices.{reached_by}
use Rattle.meshes.proofs.VertexBox.reach.Goals as goal

pub returns : goal.returns
unfolding reached_by
returns c = rw (← c.larger-3.ensures, ← c.larger-2.ensures, ← c.larger.ensures, ← c.lesser-3.ensures, ← c.lesser-2.ensures, ← c.lesser.ensures)
