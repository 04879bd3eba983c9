-- Seven slices that are the same ones twice, with the same elements in them, are one outcome; and clearing them after a step that keeps their lengths leaves
-- what clearing them before it would. By congruence. Assumes nothing.
use Rattle.std.specs.Prelude.{◌≡◌, List, ℕ, length, Float}
use Rattle.std.proofs.Common.{sym, ap, ◌∙◌}
use Rattle.lists.specs.Lists.{zeros32, zeros_u}
use Rattle.lists.specs.Laws.OneAnswer.{same}
use Rattle.ending.specs.declared.Grids.{Grids}
use Rattle.ending.specs.Slices.{Scratch, SameGrids, SameLengths, scratch_of}
use Rattle.ending.specs.Ending.{Cleared}

pub grids_alike : (g : Grids) {h k : Grids} → SameGrids g h → SameGrids g k
    → h.s0.now ≡ k.s0.now → h.s1.now ≡ k.s1.now → h.s2.now ≡ k.s2.now → h.s3.now ≡ k.s3.now → h.s4.now ≡ k.s4.now → h.s5.now ≡ k.s5.now
    → h.s6.now ≡ k.s6.now → h ≡ k
grids_alike g p q e0 e1 e2 e3 e4 e5 e6 =
    p
    ∙ (λ i. record {
      s0 = record g.s0 { now = e0 i };
      s1 = record g.s1 { now = e1 i };
      s2 = record g.s2 { now = e2 i };
      s3 = record g.s3 { now = e3 i };
      s4 = record g.s4 { now = e4 i };
      s5 = record g.s5 { now = e5 i };
      s6 = record g.s6 { now = e6 i };
    })
    ∙ sym q

-- so they are where both times they are cleared
pub grids_cleared : (g : Grids) {h k : Grids} {s : Scratch} {edges edges' : List ℕ} {distances distances' : List Float}
    → SameGrids g h → SameGrids g k → Cleared s (scratch_of h edges distances) → Cleared s (scratch_of k edges' distances') → h ≡ k
grids_cleared g p q c d =
    grids_alike g p q (same c.s0_clear d.s0_clear) (same c.s1_clear d.s1_clear) (same c.s2_clear d.s2_clear) (same c.s3_clear d.s3_clear)
    (same c.s4_clear d.s4_clear) (same c.s5_clear d.s5_clear) (same c.s6_clear d.s6_clear)

-- what is cleared after a step that keeps the lengths is cleared from before it
pub cleared_since : {g h : Grids} {edges edges' : List ℕ} {distances distances' : List Float} {t : Scratch}
    → SameLengths g h → length edges' ≡ length edges → length distances' ≡ length distances
    → Cleared (scratch_of h edges' distances') t → Cleared (scratch_of g edges distances) t
cleared_since l e d c =
    record {
      s0_clear = c.s0_clear ∙ ap zeros32 l.l0;
      s1_clear = c.s1_clear ∙ ap zeros32 l.l1;
      s2_clear = c.s2_clear ∙ ap zeros32 l.l2;
      s3_clear = c.s3_clear ∙ ap zeros32 l.l3;
      s4_clear = c.s4_clear ∙ ap zeros32 l.l4;
      s5_clear = c.s5_clear ∙ ap zeros32 l.l5;
      s6_clear = c.s6_clear ∙ ap zeros32 l.l6;
      edges_clear = c.edges_clear ∙ ap zeros_u e;
      distances_clear = c.distances_clear ∙ ap zeros32 d;
    }

-- the same after one step and after the next are the same after both
pub then_same : (g h k : Grids) → SameGrids g h → SameGrids h k → SameGrids g k
then_same g h k p q =
    q
    ∙ (λ i. record {
      s0 = record (p i).s0 { now = k.s0.now };
      s1 = record (p i).s1 { now = k.s1.now };
      s2 = record (p i).s2 { now = k.s2.now };
      s3 = record (p i).s3 { now = k.s3.now };
      s4 = record (p i).s4 { now = k.s4.now };
      s5 = record (p i).s5 { now = k.s5.now };
      s6 = record (p i).s6 { now = k.s6.now };
    })
