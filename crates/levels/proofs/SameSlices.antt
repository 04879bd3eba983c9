-- The seven slices through one level after another: they stay the same ones, each of its length. By congruence. Assumes nothing.
use Rattle.std.specs.Prelude.{◌≡◌, ℕ}
use Rattle.std.proofs.Common.{◌∙◌}
use Rattle.levels.specs.declared.Slices.{Slices}
use Rattle.levels.specs.Slices.{SameSlices, AllSized}

-- counted by the first, or by the nodes
pub sized_by : {n m : ℕ} {z : Slices} → AllSized n z → n ≡ m → AllSized m z
sized_by z e =
    record {
      of_x = z.of_x ∙ e;
      of_before = z.of_before ∙ e;
      of_b = z.of_b ∙ e;
      of_s = z.of_s ∙ e;
      of_r = z.of_r ∙ e;
      of_p = z.of_p ∙ e;
      of_ap = z.of_ap ∙ e;
    }

-- the same after one level and after the next are the same after both
pub then_same : (y z w : Slices) → SameSlices y z → SameSlices z w → SameSlices y w
then_same y z w p q =
    q
    ∙ (λ i. record {
      x = record (p i).x { now = w.x.now };
      before = record (p i).before { now = w.before.now };
      b = record (p i).b { now = w.b.now };
      s = record (p i).s { now = w.s.now };
      r = record (p i).r { now = w.r.now };
      p = record (p i).p { now = w.p.now };
      ap = record (p i).ap { now = w.ap.now };
    })
