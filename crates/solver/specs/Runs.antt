-- The four vectors of a run as one value, and what a step and a turn leave: words of the contracts inside this crate. No definition of what is right rests on
-- them. Assumes nothing.
use Rattle.std.specs.Prelude.{◌≡◌, false, List, ℕ, suc, Option, Some, None, Float}
use Rattle.std.specs.Float.{binary64}
use Rattle.std.specs.Float.Ieee.{div}
use Rattle.lists.specs.Lists.{tabulate}
use Rattle.numbers.specs.Arithmetic.{narrowed}
use Rattle.grid.specs.declared.Grid.{Grid}
use Rattle.grid.specs.Grid.{all_nodes}
use Rattle.vectors.specs.Vectors.{plus_at}
use Rattle.vectors.specs.Words.{NodeSlices, Advanced}
use Rattle.solver.specs.declared.gradients.Run.{Run}
use Rattle.solver.specs.Solver.{State, stops, next, steps}

-- the same four slices: none is another's, whatever stands in them
abbrev pub SameRun : Run → Run → Type 0
SameRun y z =
    z
    ≡ record {
      x = record y.x { now = z.x.now };
      r = record y.r { now = z.r.now };
      p = record y.p { now = z.p.now };
      ap = record y.ap { now = z.ap.now };
    }

-- each has one element a node
abbrev pub OneANode : (g : Grid) → Run → Type 0
OneANode g z = NodeSlices g z.x.now z.r.now z.p.now z.ap.now

-- what stands in them, with rr = r·r beside: A p is made anew each turn
abbrev pub state_of : Run → (rr : Float) → State
state_of z rr = record { x = z.x.now; r = z.r.now; p = z.p.now; rr = rr }

-- a whole step by alpha, from s to s': its first half, and p' too
pub record Updated (g : Grid) (alpha : Float) (s : State) (ap : List Float) (s' : State) : Type 0 where
  pub advanced : Advanced g alpha s.x s.r s.p ap s'.x s'.r s'.rr
  pub of_p : s'.p ≡ tabulate (all_nodes g) (plus_at (narrowed (div binary64 s'.rr s.rr)) s'.r s.p)

-- what a turn from s answers and leaves as z: an rr', that s does not stop, and the next state; none, that x is what any number of steps from here gives
abbrev pub Turned : (g : Grid) (limit : Float) (s : State) → Option Float → (z : Run) → Type 0
Turned g limit s None z = (k : ℕ) → z.x.now ≡ (steps g limit (suc k) s).x
Turned g limit s (Some rr') z = (stops g limit s ≡ false) × (state_of z rr' ≡ next g s)
