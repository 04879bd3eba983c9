-- `orientation::centre` meets its contract: the places read are those of the face's corners. Assumes nothing.
use Rattle.orientation.specs.Orientation.{centre_of}
use Rattle.orientation.proofs.triangle.centre.Goals as goal

pub returns : goal.returns
unfolding centre_of
returns c = rw (c.vertex_at-c.ensures, c.of-3.ensures, c.vertex_at-b.ensures, c.of-2.ensures, c.vertex_at-a.ensures, c.of.ensures)
