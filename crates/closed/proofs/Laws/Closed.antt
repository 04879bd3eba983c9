-- The theorem of the closed mesh: where each cell's directed pairs balance but for what its six sides yield, where two neighbours' sides yield
-- opposite pairs, and where the outermost sides yield none, the directed pairs of the whole grid balance. The sum over all cells shifts by one cell along
-- each axis, so that the higher sides cancel the lower ones. Cells are numbered 0 .. nx - 2, 0 .. ny - 2, 0 .. nz - 2. Assumes nothing.
use Rattle.std.specs.Prelude.{◌≡◌, List, ℕ, ◌+◌, ◌-◌}
use Rattle.std.proofs.Common.{sym, ◌∙◌}
use Rattle.std.proofs.Math.Path.{ap}
use native.Mathlib.Omega.{arith}
use Rattle.closed.specs.Lists.{count, sum3, cells3}
use Rattle.closed.specs.Faces.{Face, runs, Balanced}
use Rattle.closed.proofs.Laws.Sums.{sum3_cong, sum3_add, sum3_shift_first, sum3_shift_second, sum3_shift_third}
use Rattle.closed.proofs.Laws.Counting.{count_cells3}
use Rattle.closed.specs.Laws.Closed.{PerCell, Matched, total}

less_two : (n : ℕ) → n - 1 - 1 ≡ n - 2
less_two n = omega arith

module _ (nx ny nz : ℕ) where
  -- the six sides' sum over the grid, taken apart
  six : (f xm xp ym yp zm zp : ℕ → ℕ → ℕ → ℕ)
      → sum3 nx ny nz (λ i j k. f i j k + (xm i j k + xp i j k + (ym i j k + yp i j k) + (zm i j k + zp i j k)))
      ≡ sum3 nx ny nz f + (sum3 nx ny nz xm + sum3 nx ny nz xp + (sum3 nx ny nz ym + sum3 nx ny nz yp) + (sum3 nx ny nz zm + sum3 nx ny nz zp))
  six f xm xp ym yp zm zp =
      omega (
        arith,
        sum3_add nx ny nz f (λ i j k. xm i j k + xp i j k + (ym i j k + yp i j k) + (zm i j k + zp i j k)),
        sum3_add nx ny nz (λ i j k. xm i j k + xp i j k + (ym i j k + yp i j k)) (λ i j k. zm i j k + zp i j k),
        sum3_add nx ny nz (λ i j k. xm i j k + xp i j k) (λ i j k. ym i j k + yp i j k),
        sum3_add nx ny nz xm xp,
        sum3_add nx ny nz ym yp,
        sum3_add nx ny nz zm zp,
      )

module _ (nx ny nz : ℕ) (fwd xm xp ym yp zm zp : PerCell) (m : Matched nx ny nz fwd xm xp ym yp zm zp) where
  -- over the whole grid the higher sides yield what the lower sides yield the other way
  pub total_x : (a b : ℕ) → total nx ny nz xp a b ≡ total nx ny nz xm b a
  unfolding total
  total_x a b =
      sum3_shift_first (nx - 1) (ny - 1) (nz - 1) (λ i j k. xp i j k a b) (λ i j k. xm i j k b a)
      (λ i j k bi bj bk. m.next_x i j k a b bi bj bk)
      (λ j k o bj bk. m.first_x j k b a bj bk)
      (λ j k o bj bk. ap (λ (i : ℕ). xp i j k a b) (less_two nx) ∙ m.last_x j k a b bj bk)

  pub total_y : (a b : ℕ) → total nx ny nz yp a b ≡ total nx ny nz ym b a
  unfolding total
  total_y a b =
      sum3_shift_second (nx - 1) (ny - 1) (nz - 1) (λ i j k. yp i j k a b) (λ i j k. ym i j k b a)
      (λ i j k bi bj bk. m.next_y i j k a b bi bj bk)
      (λ i k bi o bk. m.first_y i k b a bi bk)
      (λ i k bi o bk. ap (λ (j : ℕ). yp i j k a b) (less_two ny) ∙ m.last_y i k a b bi bk)

  pub total_z : (a b : ℕ) → total nx ny nz zp a b ≡ total nx ny nz zm b a
  unfolding total
  total_z a b =
      sum3_shift_third (nx - 1) (ny - 1) (nz - 1) (λ i j k. zp i j k a b) (λ i j k. zm i j k b a)
      (λ i j k bi bj bk. m.next_z i j k a b bi bj bk)
      (λ i j bi bj o. m.first_z i j b a bi bj)
      (λ i j bi bj o. ap (λ (k : ℕ). zp i j k a b) (less_two nz) ∙ m.last_z i j a b bi bj)

  -- the theorem
  pub closed : (a b : ℕ) → total nx ny nz fwd a b ≡ total nx ny nz fwd b a
  unfolding total
  closed a b =
      omega (
        arith,
        sum3_cong (nx - 1) (ny - 1) (nz - 1) _ _ (λ i j k bi bj bk. m.cell i j k a b bi bj bk),
        six (nx - 1) (ny - 1) (nz - 1) (λ i j k. fwd i j k a b) (λ i j k. xm i j k b a) (λ i j k. xp i j k b a)
            (λ i j k. ym i j k b a) (λ i j k. yp i j k b a) (λ i j k. zm i j k b a) (λ i j k. zp i j k b a),
        six (nx - 1) (ny - 1) (nz - 1) (λ i j k. fwd i j k b a) (λ i j k. xm i j k a b) (λ i j k. xp i j k a b)
            (λ i j k. ym i j k a b) (λ i j k. yp i j k a b) (λ i j k. zm i j k a b) (λ i j k. zp i j k a b),
        total_x a b,
        total_x b a,
        total_y a b,
        total_y b a,
        total_z a b,
        total_z b a,
      )

-- ---- the same of faces: the faces that the cells yield, joined in the order i, j, k

pub closed_faces : (nx ny nz : ℕ) (row : ℕ → ℕ → ℕ → List Face) (xm xp ym yp zm zp : PerCell)
    → Matched nx ny nz (λ i j k a b. count (runs a b) (row i j k)) xm xp ym yp zm zp → Balanced (cells3 (nx - 1) (ny - 1) (nz - 1) row)
unfolding total
closed_faces nx ny nz row xm xp ym yp zm zp m a b =
    count_cells3 (runs a b) (nx - 1) (ny - 1) (nz - 1) row
    ∙ closed nx ny nz (λ i j k a b. count (runs a b) (row i j k)) xm xp ym yp zm zp m a b
    ∙ sym (count_cells3 (runs b a) (nx - 1) (ny - 1) (nz - 1) row)
