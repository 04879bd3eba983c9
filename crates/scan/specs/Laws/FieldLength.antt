-- The field has N = 8^depth values, one a node: a level's conjugate gradients keep the length of what they start from, and the last level's start has a
-- value for each of its nodes. Assumes nothing.
use Rattle.std.specs.Prelude.{◌≡◌, refl, Bool, cond, List, Float}
use Rattle.std.proofs.Common.{sym, ap, ◌∙◌}
use Rattle.std.proofs.Math.Bool.{true, false}
use Prim.Native.Nat.{ℕ, zero, suc, ◌+◌, ◌-◌, ◌*◌, ◌^◌, min}
use Rattle.std.proofs.Math.Nat.{add-zero, mul-mul-mul_comm, pow-succ'}
use native.Mathlib.Omega.{arith}
use Rattle.std.proofs.Math.ListN.{length}
use Rattle.std.proofs.lemmas.List.{length-replicate}
use Rattle.std.specs.Float.Ieee.{binary64, mul, eq}
use Rattle.lists.specs.Lists.{zero32, zeros32}
use Rattle.lists.specs.Laws.Tabulate.{length_tabulate}
use Rattle.grid.specs.declared.Grid.{Grid}
use Rattle.grid.specs.Grid.{grid_of, all_nodes}
use Rattle.numbers.specs.Constants.{zero64}
use Rattle.vectors.specs.Vectors.{plus_at}
use Rattle.field.specs.Field.{right_side}
use Rattle.solver.specs.Solver.{State, started, stops, alpha_of, next, steps, norm_of, conjugate}
use Rattle.points.specs.declared.point.Point.{Point}
use Rattle.levels.specs.declared.Problem.{Problem}
use Rattle.levels.specs.Levels.{coarsest, grid_at, start_at, start_from, level_from, risen, solution}
use Rattle.settings.specs.declared.Settings.{Settings}
use Rattle.scan.specs.Reconstruction.{problem_for, field_for}

-- (2^d)^3 is 8^d
pub cubed : (d : ℕ) → 2 ^ d * 2 ^ d * 2 ^ d ≡ 8 ^ d
cubed zero = refl
cubed (suc d) =
    let t = 2 ^ d in
    let twice : 2 ^ suc d ≡ 2 * t = pow-succ' 2 d in
    let two : 2 * t * (2 * t) ≡ 4 * (t * t) = mul-mul-mul_comm 2 t 2 t in
    let three : 4 * (t * t) * (2 * t) ≡ 8 * (t * t * t) = mul-mul-mul_comm 4 (t * t) 2 t in
    ap (λ (k : ℕ). k * k * k) twice ∙ ap (λ (k : ℕ). k * (2 * t)) two ∙ three ∙ ap (λ (k : ℕ). 8 * k) (cubed d) ∙ sym (pow-succ' 8 d)

-- ---- one level

module _ (g : Grid) where
  next_length : (s : State) → length (next g s).x ≡ all_nodes g
  unfolding next
  next_length s = length_tabulate (all_nodes g) (plus_at (alpha_of g s) s.x s.p)

  steps_length : (limit : Float) (k : ℕ) (s : State) → length s.x ≡ all_nodes g → length (steps g limit k s).x ≡ all_nodes g
  unfolding steps
  steps_length limit zero s h = h
  steps_length limit (suc k) s h = by_cases (stops g limit s) (steps_length limit k (next g s) (next_length s))
    where
      by_cases : (b : Bool) → length (steps g limit k (next g s)).x ≡ all_nodes g → length (cond b s (steps g limit k (next g s))).x ≡ all_nodes g
      by_cases true rest = h
      by_cases false rest = rest

  conjugate_length : (tolerance : Float) (cap : ℕ) (b x : List Float) → length x ≡ all_nodes g → length (conjugate g tolerance cap b x) ≡ all_nodes g
  unfolding conjugate started
  conjugate_length tolerance cap b x h = by_cases (eq (norm_of g b) zero64)
    where
      by_cases : (z : Bool) → length (cond z x (steps g (mul binary64 tolerance (norm_of g b)) cap (started g b x)).x) ≡ all_nodes g
      by_cases true = h
      by_cases false = steps_length (mul binary64 tolerance (norm_of g b)) cap (started g b x) h

-- ---- the levels

module _ (t : Problem) (ps : List Point) where
  level_length : (g : Grid) (x : List Float) → length x ≡ all_nodes g → length (level_from t ps g x) ≡ all_nodes g
  unfolding level_from
  level_length g x h = conjugate_length g t.tolerance t.cap (right_side g ps t.spacing t.smoothing) x h

  risen_length : (first k : ℕ) → length (risen t ps first k) ≡ all_nodes (grid_at t (first + k))
  unfolding risen
  risen_length first zero =
      let n = all_nodes (grid_at t first) in rw add-zero (level_length (grid_at t first) (zeros32 n) (length-replicate n zero32))
  risen_length first (suc k) =
      let coarse = grid_at t (first + k) in
      let g = grid_at t (first + suc k) in
      level_length g (start_from coarse g (risen t ps first k)) (length_tabulate (all_nodes g) (start_at coarse g (risen t ps first k)))

  solution_length : (depth : ℕ) → length (solution t ps depth) ≡ all_nodes (grid_at t depth)
  unfolding solution
  solution_length depth =
      let all : min depth coarsest + (depth - coarsest) ≡ depth = omega arith in
      rw all at (risen_length (min depth coarsest) (depth - coarsest))

-- ---- the field of a call

pub field_length : (ps : List Point) (st : Settings) → length (field_for ps st) ≡ 8 ^ st.depth
unfolding field_for grid_of
field_length ps st = solution_length (problem_for ps st) ps st.depth ∙ cubed st.depth
