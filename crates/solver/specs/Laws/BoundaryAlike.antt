-- The boundary stays alike: where x and b are +0.0 on it, conjugate gradients leave all its nodes +0.0, or all NaN. A x is +0.0 there, r and p start at
-- +0.0, and the same alpha and beta act on all nodes; c·(+0.0) is a zero or NaN whatever c is, and +0.0 with a zero of either sign added or subtracted is
-- +0.0. Assumes nothing.
use Rattle.std.specs.Prelude.{◌≡◌, refl, Bool, List, ◌⊎◌, pos, Float}
use Rattle.std.proofs.Math.Path.{ap}
use Rattle.std.proofs.Common.{◌∙◌, inl, inr, ⊎_elim, mul-zero, arith}
use Rattle.std.proofs.Math.Bool.{true, false, cond}
use Prim.Native.Nat.{ℕ, zero, suc, ◌*◌}
use Rattle.std.specs.Float.Ieee.{nan, binary64, of_bits, unlike, up, down, round, neg, sum, add, sub, mul, div, eq}
use Rattle.std.specs.Float.{inf, fin, binary32}
use Rattle.std.specs.Float.Ieee.Fits.{down_pos}
use Rattle.lists.specs.Lists.{tabulate, zero32}
use Rattle.lists.specs.Laws.Tabulate.{at_tabulate}
use Rattle.numbers.specs.Arithmetic.{narrowed}
use Rattle.numbers.proofs.Laws.Symmetry.{round_zero}
use Rattle.grid.specs.declared.Grid.{Grid}
use Rattle.grid.specs.Grid.{all_nodes}
use Rattle.laplacian.specs.Laplacian.{apply_at, applied, stencil_at}
use Rattle.numbers.specs.Constants.{zero64}
use Rattle.vectors.specs.Vectors.{dotted, plus_at, minus_at, less_at}
use Rattle.numbers.proofs.Laws.NanThrough.{nan_add, add_nan, mul_nan, nan_sub, sub_nan}
use Rattle.solver.specs.Solver.{State, started, stops, alpha_of, next, steps, norm_of, conjugate}
use Rattle.solver.specs.Boundary.{BoundaryIs, ZeroOrNan, BoundaryUniform}

-- ---- at one node

-- a zero of either sign
abbrev signed_zero : Bool → Float
signed_zero s = fin s 0 (pos 0)

plus_zero : (s : Bool) → add binary32 zero32 (signed_zero s) ≡ zero32
unfolding add sum of_bits round
plus_zero true = refl
plus_zero false = refl

less_zero : (s : Bool) → sub binary32 zero32 (signed_zero s) ≡ zero32
unfolding sub add sum neg of_bits round
less_zero true = refl
less_zero false = refl

zero_less_zero : sub binary32 zero32 zero32 ≡ zero32
unfolding of_bits
zero_less_zero = less_zero false

-- c times +0.0
times_zero : (c : Float) → (mul binary32 c zero32 ≡ nan) ⊎ ((s : Bool) × (mul binary32 c zero32 ≡ signed_zero s))
unfolding mul of_bits
times_zero nan = inl refl
times_zero (inf s) = inl refl
times_zero (fin s m e) =
    let some = down_pos e in
    inr (unlike s false, ap (λ (n : ℕ). round binary32 (unlike s false) n (down e * 1)) (mul-zero (m * up e)) ∙ round_zero binary32 (unlike s false) (down e * 1) (omega arith))

-- v + c·w and v - c·(+0.0), for v and w that are +0.0 or NaN
plus_kept : (c : Float) {v w : Float} → ZeroOrNan v → ZeroOrNan w → ZeroOrNan (add binary32 v (mul binary32 c w))
plus_kept c {v} {w} (inr e) which = inr (nan_add binary32 (mul binary32 c w) e)
plus_kept c {v} {w} (inl e) (inr f) = inr (add_nan binary32 v (mul_nan binary32 c f))
plus_kept c {v} {w} (inl e) (inl f) =
    rw (e, f) (⊎_elim
    (λ (none : mul binary32 c zero32 ≡ nan). inr (add_nan binary32 zero32 none))
    (λ (z : (s : Bool) × (mul binary32 c zero32 ≡ signed_zero s)). inl (ap (add binary32 zero32) z.1 ∙ plus_zero z.0))
    (times_zero c))

minus_kept : (c : Float) {v : Float} → ZeroOrNan v → ZeroOrNan (sub binary32 v (mul binary32 c zero32))
minus_kept c {v} (inr e) = inr (nan_sub binary32 (mul binary32 c zero32) e)
minus_kept c {v} (inl e) =
    rw e (⊎_elim
    (λ (none : mul binary32 c zero32 ≡ nan). inr (sub_nan binary32 zero32 none))
    (λ (z : (s : Bool) × (mul binary32 c zero32 ≡ signed_zero s)). inl (ap (sub binary32 zero32) z.1 ∙ less_zero z.0))
    (times_zero c))

-- ---- over the whole boundary

module _ (g : Grid) where
  applied_zero : (x : List Float) → BoundaryIs g (applied g x) zero32
  unfolding apply_at
  applied_zero x q h e =
      at_tabulate nan (all_nodes g) (apply_at g.nodes x) q h
      ∙ ap (λ (b : Bool). cond b zero32 (stencil_at (g.nodes * g.nodes) g.nodes x q)) e

  plus_alike : (c : Float) {a b : List Float} → BoundaryUniform g a → BoundaryUniform g b → BoundaryUniform g (tabulate (all_nodes g) (plus_at c a b))
  plus_alike c {a} {b} ha hb =
      record {
        value = add binary32 ha.value (mul binary32 c hb.value);
        which = plus_kept c ha.which hb.which;
        all = λ q h e. at_tabulate nan (all_nodes g) (plus_at c a b) q h ∙ rw (ha.all q h e, hb.all q h e);
      }

  minus_alike : (c : Float) {a : List Float} (x : List Float) → BoundaryUniform g a → BoundaryUniform g (tabulate (all_nodes g) (minus_at c a (applied g x)))
  minus_alike c {a} x ha =
      record {
        value = sub binary32 ha.value (mul binary32 c zero32);
        which = minus_kept c ha.which;
        all = λ q h e. at_tabulate nan (all_nodes g) (minus_at c a (applied g x)) q h ∙ rw (ha.all q h e, applied_zero x q h e);
      }

  zero_alike : {x : List Float} → BoundaryIs g x zero32 → BoundaryUniform g x
  zero_alike all = record { value = zero32; which = inl refl; all = all }

  less_alike : (b x : List Float) → BoundaryIs g b zero32 → BoundaryUniform g (tabulate (all_nodes g) (less_at b (applied g x)))
  less_alike b x hb =
      zero_alike (λ q h e. at_tabulate nan (all_nodes g) (less_at b (applied g x)) q h ∙ rw (hb q h e, applied_zero x q h e) zero_less_zero)

  -- ---- step by step

  record Kept (s : State) : Type 0 where
    x : BoundaryUniform g s.x
    r : BoundaryUniform g s.r
    p : BoundaryUniform g s.p

  next_kept : (s : State) → Kept s → Kept (next g s)
  unfolding next
  next_kept s k =
      let alpha = alpha_of g s in
      let r' = tabulate (all_nodes g) (minus_at alpha s.r (applied g s.p)) in
      let beta = narrowed (div binary64 (dotted g r' r') s.rr) in
      record {
        x = plus_alike alpha k.x k.p;
        r = minus_alike alpha s.p k.r;
        p = plus_alike beta (minus_alike alpha s.p k.r) k.p;
      }

  steps_kept : (limit : Float) (k : ℕ) (s : State) → Kept s → Kept (steps g limit k s)
  unfolding steps
  steps_kept limit zero s h = h
  steps_kept limit (suc k) s h = go (steps_kept limit k (next g s) (next_kept s h)) (stops g limit s)
    where
      go : Kept (steps g limit k (next g s)) → (b : Bool) → Kept (cond b s (steps g limit k (next g s)))
      go on true = h
      go on false = on

  -- ---- the law

  pub conjugate_alike : (tolerance : Float) (cap : ℕ) (b x : List Float) → BoundaryIs g b zero32 → BoundaryIs g x zero32 → BoundaryUniform g (conjugate g tolerance cap b x)
  unfolding conjugate started
  conjugate_alike tolerance cap b x hb hx = go (eq (norm_of g b) zero64)
    where
      first : Kept (started g b x)
      first = record { x = zero_alike hx; r = less_alike b x hb; p = less_alike b x hb }

      go : (t : Bool) → BoundaryUniform g (cond t x (steps g (mul binary64 tolerance (norm_of g b)) cap (started g b x)).x)
      go true = zero_alike hx
      go false = (steps_kept (mul binary64 tolerance (norm_of g b)) cap (started g b x) first).x
