-- The arrays have room for any mesh of depth 3, so the call answers nothing above 6: `told_to_6`, at the lengths of the arrays as the code has them. Assumes
-- nothing.
use Rattle.std.proofs.Common.{arith}
use Rattle.preview.proofs.AnyMesh.{told_to_6}
use Rattle.preview.proofs.mesh.Goals as goal

pub tell-requires : goal.tell-requires
tell-requires g c =
    told_to_6 _ _ _ c.requires
    (record {
      vertices = omega arith;
      faces = omega arith;
      grids = omega arith;
      edges = omega arith;
      distances = omega arith;
    })
    _ c.poisson_reconstruction-answer.ensures.done.answered
