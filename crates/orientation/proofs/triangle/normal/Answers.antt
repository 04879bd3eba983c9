-- `orientation::triangle::normal` meets its contract: the sides are those from corner 0. Assumes nothing.
use Rattle.orientation.specs.Orientation.{normal_of}
use Rattle.orientation.proofs.triangle.normal.Goals as goal

pub returns : goal.returns
unfolding normal_of
returns c = rw (c.crossed.ensures, c.from_to-2.ensures, c.from_to.ensures, c.vertex_at-c.ensures, c.of-3.ensures, c.vertex_at-b.ensures, c.of-2.ensures, c.vertex_at-a.ensures, c.of.ensures)
