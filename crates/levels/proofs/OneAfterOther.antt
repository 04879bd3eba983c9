-- The levels one after the other: what each level's function says, said of `risen`. g and c are the grids as the code made them. Assumes nothing.
use mathlib.Core.Path.{◌≡◌, sym, ap, ◌∙◌}
use mathlib.Core.List.{List}
use Prim.Native.Nat.{ℕ, suc, ◌+◌, ◌-◌, ◌≤◌, min}
use native.Mathlib.Nat.{le_of_eq}
use native.Mathlib.Omega.{arith}
use lib.ListN.{length, take}
use lib.Seq.{take_all}
use lib.Ieee.{Float}
use Rattle.lists.specs.Lists.{zeros32}
use Rattle.grid.specs.declared.Grid.{Grid}
use Rattle.grid.specs.Grid.{grid_of, all_nodes}
use Rattle.points.specs.declared.point.Point.{Point}
use Rattle.levels.specs.declared.Problem.{Problem}
use Rattle.levels.specs.Levels.{coarsest, grid_at, nodes_at, start_from, level_from, risen, solution}
use Rattle.levels.proofs.Fronts.{zeros_front}

pub nodes_is : (t : Problem) (depth : ℕ) {g : Grid} → g ≡ grid_at t depth → all_nodes g ≡ nodes_at depth
unfolding grid_of
nodes_is t depth e = ap all_nodes e

module _ (t : Problem) (ps : List Point) where
  -- the first level, whose x was cleared
  pub first_is : (depth : ℕ) (x' : List Float) {g : Grid} {m : ℕ} {z : List Float} → g ≡ grid_at t depth → nodes_at depth ≤ m → z ≡ zeros32 m
      → take (all_nodes g) x' ≡ level_from t ps g (take (all_nodes g) z) → take (nodes_at depth) x' ≡ risen t ps depth 0
  unfolding risen grid_of
  first_is depth x' {g} {m} {z} e h ez l =
      sym (ap (λ (n : ℕ). take n x') (nodes_is t depth e))
      ∙ l
      ∙ ap (λ (c : Grid). level_from t ps c (take (all_nodes c) z)) e
      ∙ ap (level_from t ps (grid_at t depth)) (ap (take (nodes_at depth)) ez ∙ zeros_front m h)

  -- the one after the level of this depth, which x holds: x₁ is its start
  pub next_is : (depth : ℕ) (x x₁ x' : List Float) {c g : Grid} → c ≡ grid_at t depth → g ≡ grid_at t (depth + 1) → take (all_nodes g) x₁ ≡ start_from c g (take (all_nodes c) x)
      → take (all_nodes g) x' ≡ level_from t ps g (take (all_nodes g) x₁)
      → take (nodes_at (depth + 1)) x' ≡ level_from t ps (grid_at t (depth + 1)) (start_from (grid_at t depth) (grid_at t (depth + 1)) (take (nodes_at depth) x))
  unfolding grid_of
  next_is depth x x₁ x' {c} {g} ec eg s l =
      sym (ap (λ (n : ℕ). take n x') (nodes_is t (depth + 1) eg))
      ∙ l ∙ ap (level_from t ps g) s
      ∙ ap (λ (d : Grid). level_from t ps d (start_from c d (take (all_nodes c) x))) eg
      ∙ ap (λ (d : Grid). level_from t ps (grid_at t (depth + 1)) (start_from d (grid_at t (depth + 1)) (take (all_nodes d) x))) ec

  -- a turn of the loop: x holds level d
  pub rise_more : (first d : ℕ) (x x' : List Float) → first ≤ d → take (nodes_at d) x ≡ risen t ps first (d - first)
      → take (nodes_at (d + 1)) x' ≡ level_from t ps (grid_at t (d + 1)) (start_from (grid_at t d) (grid_at t (d + 1)) (take (nodes_at d) x))
      → take (nodes_at (d + 1)) x' ≡ risen t ps first (d + 1 - first)
  unfolding risen
  rise_more first d x x' h so_far l =
      let k = d - first in
      let here : first + k ≡ d = omega arith in
      let more : d + 1 - first ≡ suc k = omega arith in
      let there : first + suc k ≡ d + 1 = omega arith in
      l
      ∙ ap (λ (z : List Float). level_from t ps (grid_at t (d + 1)) (start_from (grid_at t d) (grid_at t (d + 1)) z)) so_far
      ∙ sym (ap (risen t ps first) more ∙ ap (λ (b : ℕ). level_from t ps (grid_at t b) (start_from (grid_at t (first + k)) (grid_at t b) (risen t ps first k))) there
      ∙ ap (λ (a : ℕ). level_from t ps (grid_at t (d + 1)) (start_from (grid_at t a) (grid_at t (d + 1)) (risen t ps first k))) here)

  -- its end
  pub rise_done : (first d depth : ℕ) (x : List Float) → take (nodes_at d) x ≡ risen t ps first (d - first) → d ≡ depth → length x ≡ nodes_at depth → x ≡ risen t ps first (depth - first)
  rise_done first d depth x so_far e size =
      sym (take_all (nodes_at depth) x (le_of_eq size)) ∙ sym (ap (λ (n : ℕ). take (nodes_at n) x) e) ∙ so_far ∙ ap (λ (n : ℕ). risen t ps first (n - first)) e

  -- the whole
  pub solution_is : (depth : ℕ) {first : ℕ} {x : List Float} → first ≡ min depth coarsest → x ≡ risen t ps first (depth - first) → x ≡ solution t ps depth
  unfolding solution
  solution_is depth {first} e h =
      let later : depth - first ≡ depth - coarsest = omega arith in
      h ∙ ap (risen t ps first) later ∙ ap (λ (n : ℕ). risen t ps n (depth - coarsest)) e
