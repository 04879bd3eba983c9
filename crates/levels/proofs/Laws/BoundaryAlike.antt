-- THE LAW on the boundary, for every input: the solution's boundary nodes are all +0.0 or all NaN. The last level starts from +0.0 there and its right
-- side is +0.0 there, so it is conjugate gradients' own law. So all of them lie on one side of any level (`outer`), which is what the closed mesh asks.
-- Assumes nothing.
use Rattle.std.specs.Prelude.{◌≡◌, refl, Bool, true, false, cond, ◌||◌, List, Float}
use Rattle.std.proofs.Math.Path.{ap}
use Rattle.std.proofs.Common.{◌∙◌}
use Prim.Native.Nat.{ℕ, zero, suc, ◌+◌, ◌-◌, ◌^◌, ◌<◌, min}
use Rattle.std.proofs.Math.Nat.{add-zero}
use native.Mathlib.Omega.{arith}
use Rattle.std.proofs.lemmas.List.{get_or-replicate}
use Rattle.std.specs.Float.{nan}
use Rattle.std.specs.Float.Ieee.{lt}
use Rattle.lists.specs.Lists.{zero32, zeros32}
use Rattle.lists.specs.Laws.Tabulate.{at_tabulate}
use Rattle.numbers.specs.Arithmetic.{narrowed}
use Rattle.closed.specs.Grid.{node, Outer}
use Rattle.closed.proofs.Laws.Crossings.{node_lt}
use Rattle.grid.specs.declared.Grid.{Grid}
use Rattle.grid.specs.Grid.{grid_of, at_end, on_boundary, coords_of, sampled, world_of, all_nodes}
use Rattle.grid.specs.Laws.Rows.{first_end, last_end, boundary_node_lem}
use Rattle.points.specs.declared.point.Point.{Point}
use Rattle.field.specs.Field.{right_side}
use Rattle.field.specs.Laws.BoundaryZero.{right_side_boundary}
use Rattle.solver.specs.Boundary.{BoundaryIs, BoundaryUniform}
use Rattle.solver.specs.Laws.BoundaryAlike.{conjugate_alike}
use Rattle.levels.specs.declared.Problem.{Problem}
use Rattle.levels.specs.Levels.{coarsest, grid_at, start_at, start_from, level_from, risen, solution}
use Rattle.levels.specs.Laws.BoundaryAlike.{below}

-- ---- a level's start is +0.0 there

zeros_boundary : (g : Grid) → BoundaryIs g (zeros32 (all_nodes g)) zero32
zeros_boundary g q h e = get_or-replicate (all_nodes g) q zero32 nan h

start_boundary : (coarse g : Grid) (before : List Float) → BoundaryIs g (start_from coarse g before) zero32
unfolding start_at
start_boundary coarse g before q h e =
    at_tabulate nan (all_nodes g) (start_at coarse g before) q h
    ∙ ap (λ (b : Bool). cond b zero32 (narrowed (sampled coarse before (world_of g (coords_of g.nodes g.nodes q))))) e

-- ---- so the level is alike, and the last level is the solution

module _ (t : Problem) (ps : List Point) where
  level_alike : (g : Grid) (x : List Float) → BoundaryIs g x zero32 → BoundaryUniform g (level_from t ps g x)
  unfolding level_from
  level_alike g x h = conjugate_alike g t.tolerance t.cap (right_side g ps t.spacing t.smoothing) x (right_side_boundary g ps t.spacing t.smoothing) h

  risen_alike : (first k : ℕ) → BoundaryUniform (grid_at t (first + k)) (risen t ps first k)
  unfolding risen
  risen_alike first zero = rw add-zero (level_alike (grid_at t first) (zeros32 (all_nodes (grid_at t first))) (zeros_boundary (grid_at t first)))
  risen_alike first (suc k) = level_alike (grid_at t (first + suc k)) _ (start_boundary (grid_at t (first + k)) (grid_at t (first + suc k)) (risen t ps first k))

  pub boundary_alike : (depth : ℕ) → BoundaryUniform (grid_at t depth) (solution t ps depth)
  unfolding solution
  boundary_alike depth =
      let all : min depth coarsest + (depth - coarsest) ≡ depth = omega arith in
      rw all at (risen_alike (min depth coarsest) (depth - coarsest))

-- ---- every level has them on one side

or_left : {a : Bool} (b c : Bool) → a ≡ true → a || b || c ≡ true
or_left b c e = rw e

or_middle : (a : Bool) {b : Bool} (c : Bool) → b ≡ true → a || b || c ≡ true
or_middle true c e = refl
or_middle false c e = rw e

or_right : (a b : Bool) {c : Bool} → c ≡ true → a || b || c ≡ true
or_right true b e = refl
or_right false true e = refl
or_right false false e = e

module _ (t : Problem) (ps : List Point) (depth : ℕ) (iso : Float) where
  abbrev side : ℕ
  side = 2 ^ depth

  on_one_side : (i j k : ℕ) → i < side → j < side → k < side → on_boundary side i j k ≡ true → below t ps depth iso i j k ≡ lt (boundary_alike t ps depth).value iso
  unfolding grid_of
  on_one_side i j k hi hj hk e =
      ap (λ (v : Float). lt v iso) ((boundary_alike t ps depth).all (node side side i j k) (node_lt side side side i j k hi hj hk) (boundary_node_lem side i hj hk ∙ e))

  pub outer : Outer (2 ^ depth) (2 ^ depth) (2 ^ depth) (below t ps depth iso) (lt (boundary_alike t ps depth).value iso)
  outer =
      record {
        low_x = λ j k hj hk. on_one_side 0 j k (omega arith) hj hk (or_left (at_end side j) (at_end side k) (first_end side));
        high_x = λ j k hj hk. on_one_side (side - 1) j k (omega arith) hj hk (or_left (at_end side j) (at_end side k) (last_end side));
        low_y = λ i k hi hk. on_one_side i 0 k hi (omega arith) hk (or_middle (at_end side i) (at_end side k) (first_end side));
        high_y = λ i k hi hk. on_one_side i (side - 1) k hi (omega arith) hk (or_middle (at_end side i) (at_end side k) (last_end side));
        low_z = λ i j hi hj. on_one_side i j 0 hi hj (omega arith) (or_right (at_end side i) (at_end side j) (first_end side));
        high_z = λ i j hi hj. on_one_side i j (side - 1) hi hj (omega arith) (or_right (at_end side i) (at_end side j) (last_end side));
      }
