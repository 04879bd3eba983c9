-- The turns of the loop are the steps of the definition: what a turn's parts say, put together as a stop, a step or the end of a NaN run; the steps that
-- are left; the whole. Assumes nothing.
use mathlib.Core.Path.{◌≡◌, sym, ap, ◌∙◌}
use mathlib.Core.Bool.{Bool, true, false, ◌||◌, cond}
use mathlib.Core.List.{List}
use Prim.Native.Nat.{ℕ, suc, ◌+◌, ◌-◌, ◌<◌}
use native.Mathlib.Nat.{mul-pos}
use native.Mathlib.Omega.{arith}
use lib.Ieee.{Float, nan, binary64, div, mul, le, eq}
use Rattle.lists.specs.Lists.{tabulate}
use Rattle.numbers.specs.Arithmetic.{rooted, narrowed}
use Rattle.grid.specs.declared.Grid.{Grid}
use Rattle.grid.specs.Grid.{Sides, all_nodes}
use Rattle.laplacian.specs.Laplacian.{applied}
use Rattle.numbers.specs.Constants.{zero64}
use Rattle.vectors.specs.Vectors.{dotted, plus_at, minus_at, less_at}
use Rattle.solver.specs.Solver.{State, started, pap_of, stops, alpha_of, next, steps, norm_of, conjugate}
use Rattle.solver.specs.Runs.{Updated}
use Rattle.solver.proofs.NanRun.{nan_next, nan_steps}

-- ---- that there is a node

pub some_node : (g : Grid) → Sides g.nodes → 0 < all_nodes g
some_node g sides =
    let n = g.nodes in
    let one : 0 < n = omega (arith, sides.two) in
    mul-pos (mul-pos one one) one

-- ---- at most k steps, from the first on

module _ (g : Grid) (limit : Float) (k : ℕ) (s : State) where
  pub steps_stop : stops g limit s ≡ true → s ≡ steps g limit (suc k) s
  unfolding steps
  steps_stop e = sym (ap (λ (b : Bool). cond b s (steps g limit k (next g s))) e)

  steps_on : stops g limit s ≡ false → steps g limit (suc k) s ≡ steps g limit k (next g s)
  unfolding steps
  steps_on e = ap (λ (b : Bool). cond b s (steps g limit k (next g s))) e

-- ---- a turn from s. `low` is what the first test compares, ap is A p and pap what the second compares

module _ (g : Grid) (limit : Float) (s : State) where
  -- the first test stops
  pub low_stops : {low : Float} → low ≡ rooted binary64 s.rr → le low limit ≡ true → stops g limit s ≡ true
  unfolding stops
  low_stops e t = ap (λ (b : Bool). b || le (pap_of g s) zero64) (sym (ap (λ (v : Float). le v limit) e) ∙ t)

  -- the second test says whether the state stops
  pub pap_stops : {low pap : Float} {ap' : List Float} (b : Bool) → low ≡ rooted binary64 s.rr → le low limit ≡ false → ap' ≡ applied g s.p → pap ≡ dotted g s.p ap'
      → le pap zero64 ≡ b → stops g limit s ≡ b
  unfolding stops
  pap_stops b e t ea ep u =
      ap (λ (c : Bool). c || le (pap_of g s) zero64) (sym (ap (λ (v : Float). le v limit) e) ∙ t)
      ∙ ap (λ (v : Float). le v zero64) (sym (ep ∙ ap (dotted g s.p) ea)) ∙ u

  pub alpha_is : {alpha pap : Float} {ap' : List Float} → ap' ≡ applied g s.p → pap ≡ dotted g s.p ap' → alpha ≡ narrowed (div binary64 s.rr pap) → alpha ≡ alpha_of g s
  unfolding alpha_of
  alpha_is ea ep e = e ∙ ap (λ (v : Float). narrowed (div binary64 s.rr v)) (ep ∙ ap (dotted g s.p) ea)

  -- the step's parts are the step
  pub step_is : {alpha : Float} {ap' : List Float} {s' : State} → ap' ≡ applied g s.p → alpha ≡ alpha_of g s → Updated g alpha s ap' s' → s' ≡ next g s
  unfolding next
  step_is {alpha} {ap'} {s'} ea e u =
      let x= = u.advanced.of_x ∙ ap (λ (a : Float). tabulate (all_nodes g) (plus_at a s.x s.p)) e in
      let r= =
      u.advanced.of_r ∙ ap (λ (a : Float). tabulate (all_nodes g) (minus_at a s.r ap')) e
      ∙ ap (λ (z : List Float). tabulate (all_nodes g) (minus_at (alpha_of g s) s.r z)) ea in
      let rr= = u.advanced.of_rr ∙ ap (λ (z : List Float). dotted g z z) r= in
      let p= =
      u.of_p ∙ ap (λ (z : List Float). tabulate (all_nodes g) (plus_at (narrowed (div binary64 s'.rr s.rr)) z s.p)) r=
      ∙ ap (λ (v : Float). tabulate (all_nodes g) (plus_at (narrowed (div binary64 v s.rr)) (tabulate (all_nodes g) (minus_at (alpha_of g s) s.r (applied g s.p))) s.p)) rr= in
      λ i. record { x = x= i; r = r= i; p = p= i; rr = rr= i }

  -- after the update: neither test has stopped, and alpha and the new state are those of the definition
  pub stepped : {low pap alpha : Float} {ap' : List Float} {s' : State} → low ≡ rooted binary64 s.rr → le low limit ≡ false → ap' ≡ applied g s.p
      → pap ≡ dotted g s.p ap' → le pap zero64 ≡ false → alpha ≡ narrowed (div binary64 s.rr pap) → Updated g alpha s ap' s'
      → (stops g limit s ≡ false) × (alpha ≡ alpha_of g s) × (s' ≡ next g s)
  stepped e t ea ep u en eu = let alpha = alpha_is ea ep en in (pap_stops false e t ea ep u, alpha, step_is ea alpha eu)

  -- where its alpha is NaN, so is all of the next state, and every later one is the same
  pub nan_done : {s' : State} → 0 < all_nodes g → stops g limit s ≡ false → nan ≡ alpha_of g s → s' ≡ next g s → (k : ℕ) → s'.x ≡ (steps g limit (suc k) s).x
  nan_done some e a t k =
      let all = nan_next g some s (sym a) in
      ap (λ (z : State). z.x) (t ∙ all ∙ sym (nan_steps g some limit k) ∙ sym (ap (steps g limit k) all) ∙ sym (steps_on g limit k s e))

-- ---- the loop: the steps that are left, from the present state, are the whole

module _ (g : Grid) (limit : Float) (cap i : ℕ) (s whole : State) (so_far : steps g limit (cap - i) s ≡ whole) where
  left : i < cap → suc (cap - (i + 1)) ≡ cap - i
  left h = omega arith

  pub turns_done : {x' : List Float} → i < cap → ((k : ℕ) → x' ≡ (steps g limit (suc k) s).x) → x' ≡ whole.x
  turns_done h done = done (cap - (i + 1)) ∙ ap (λ (k : ℕ). (steps g limit k s).x) (left h) ∙ ap (λ (t : State). t.x) so_far

  pub turns_on : {s' : State} → i < cap → stops g limit s ≡ false → s' ≡ next g s → steps g limit (cap - (i + 1)) s' ≡ whole
  turns_on h e es = ap (steps g limit (cap - (i + 1))) es ∙ sym (steps_on g limit (cap - (i + 1)) s e) ∙ ap (λ (k : ℕ). steps g limit k s) (left h) ∙ so_far

  pub turns_end : cap - i ≡ 0 → s ≡ whole
  unfolding steps
  turns_end z = sym (ap (λ (k : ℕ). steps g limit k s) z) ∙ so_far

-- ---- the start

pub start_is : (g : Grid) (b : List Float) {x ax r p : List Float} {rr : Float} → ax ≡ applied g x → r ≡ tabulate (all_nodes g) (less_at b ax) → p ≡ r → rr ≡ dotted g r r
    → ◌≡◌ {A = State} (record { x = x; r = r; p = p; rr = rr }) (started g b x)
unfolding started
start_is g b {x} ea er ep err =
    let r= = er ∙ ap (λ (z : List Float). tabulate (all_nodes g) (less_at b z)) ea in
    let p= = ep ∙ r= in
    let rr= = err ∙ ap (λ (z : List Float). dotted g z z) r= in
    λ i. record { x = x; r = r= i; p = p= i; rr = rr= i }

-- ---- the whole

module _ (g : Grid) (tolerance : Float) (cap : ℕ) (b x : List Float) {d norm : Float} (dot : d ≡ dotted g b b) (root : norm ≡ rooted binary64 d) where
  norm_is : norm ≡ norm_of g b
  norm_is = root ∙ ap (rooted binary64) dot

  test : (t : Bool) → eq norm zero64 ≡ t
      → cond t x (steps g (mul binary64 tolerance (norm_of g b)) cap (started g b x)).x ≡ conjugate g tolerance cap b x
  unfolding conjugate
  test t e = sym (ap (λ (u : Bool). cond u x (steps g (mul binary64 tolerance (norm_of g b)) cap (started g b x)).x) (sym (ap (λ (v : Float). eq v zero64) norm_is) ∙ e))

  pub zero_stays : eq norm zero64 ≡ true → x ≡ conjugate g tolerance cap b x
  zero_stays e = test true e

  pub turns_are : {s : State} {x' : List Float} → eq norm zero64 ≡ false → s ≡ started g b x → x' ≡ (steps g (mul binary64 tolerance norm) cap s).x → x' ≡ conjugate g tolerance cap b x
  turns_are {s} e es ex =
      ex ∙ ap (λ (t : State). (steps g (mul binary64 tolerance norm) cap t).x) es
      ∙ ap (λ (v : Float). (steps g (mul binary64 tolerance v) cap (started g b x)).x) norm_is ∙ test false e
