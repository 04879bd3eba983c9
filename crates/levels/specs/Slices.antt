-- The seven slices of the levels as one value: words of the contracts inside this crate. No definition of what is right rests on them. Assumes nothing.
use Rattle.std.specs.Prelude.{◌≡◌, ℕ, length}
use Rattle.lists.specs.Lists.{zeros32}
use Rattle.levels.specs.declared.Slices.{Slices}

-- the same seven slices: none is another's, whatever stands in them
abbrev pub SameSlices : Slices → Slices → Type 0
SameSlices y z =
    z
    ≡ record {
      x = record y.x { now = z.x.now };
      before = record y.before { now = z.before.now };
      b = record y.b { now = z.b.now };
      s = record y.s { now = z.s.now };
      r = record y.r { now = z.r.now };
      p = record y.p { now = z.p.now };
      ap = record y.ap { now = z.ap.now };
    }

-- each has n elements
pub record AllSized (n : ℕ) (z : Slices) : Type 0 where
  pub of_x : length z.x.now ≡ n
  pub of_before : length z.before.now ≡ n
  pub of_b : length z.b.now ≡ n
  pub of_s : length z.s.now ≡ n
  pub of_r : length z.r.now ≡ n
  pub of_p : length z.p.now ≡ n
  pub of_ap : length z.ap.now ≡ n

-- all but x cleared: what they came with, and what they are left with
pub record ScratchCleared (y z : Slices) : Type 0 where
  pub of_x : z.x.now ≡ y.x.now
  pub of_before : z.before.now ≡ zeros32 (length y.before.now)
  pub of_b : z.b.now ≡ zeros32 (length y.b.now)
  pub of_s : z.s.now ≡ zeros32 (length y.s.now)
  pub of_r : z.r.now ≡ zeros32 (length y.r.now)
  pub of_p : z.p.now ≡ zeros32 (length y.p.now)
  pub of_ap : z.ap.now ≡ zeros32 (length y.ap.now)
