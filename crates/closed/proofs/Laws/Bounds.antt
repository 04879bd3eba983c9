-- How large the numbers get, for programs that hold them in machine words: a case is below 256, there are at most five faces a cell and three vertices a node.
-- Sums of terms that are bounded. Assumes nothing.
use Rattle.std.proofs.Common.{subst, sym, arith}
use Rattle.std.specs.Prelude.{Bool, ℕ, ◌-◌, ◌*◌, ◌≤◌, ◌<◌, length}
use Rattle.std.proofs.lemmas.List.{length-map}
use Rattle.closed.specs.Lists.{bit, member, sum3}
use Rattle.closed.specs.Numbering.{used}
use Rattle.closed.specs.Table.{case_of}
use Rattle.closed.specs.Rows.{triangles, emit, emitted}
use Rattle.closed.specs.Grid.{corner_below, cell_case, grid_faces}
use Rattle.closed.proofs.Laws.Sums.{sum_le, sum_const, sum3_le, sum3_const}
use Rattle.closed.proofs.Laws.Counting.{bit_le}
use Rattle.closed.proofs.Laws.Entries.{row_right, emitted_length}
use Rattle.closed.proofs.Laws.Vertices.{used_members}
use Rattle.closed.proofs.Laws.Claims.{grid_length}

pub case_of_lt : (b : ℕ → Bool) → case_of b < 256
case_of_lt b =
    omega (arith, bit_le (b 0), bit_le (b 1), bit_le (b 2), bit_le (b 3), bit_le (b 4), bit_le (b 5), bit_le (b 6), bit_le (b 7))

pub emitted_le : (c : ℕ) → c < 256 → length (emitted c) ≤ 5
emitted_le c h = omega (arith, emitted_length c h, (row_right c h).fits)

-- ---- the whole grid

pub faces_le : (nx ny nz : ℕ) (below : ℕ → ℕ → ℕ → Bool) → length (grid_faces nx ny nz below) ≤ (nx - 1) * ((ny - 1) * ((nz - 1) * 5))
unfolding emitted
faces_le nx ny nz below =
    subst (λ (n : ℕ). n ≤ (nx - 1) * ((ny - 1) * ((nz - 1) * 5))) (sym (grid_length nx ny nz below))
    (subst (λ (n : ℕ). sum3 (nx - 1) (ny - 1) (nz - 1) (λ i j k. length (triangles (cell_case below i j k))) ≤ n) (sum3_const (nx - 1) (ny - 1) (nz - 1) 5)
    (sum3_le (nx - 1) (ny - 1) (nz - 1) _ _ (λ i j k bi bj bk.
    omega (arith, length-map (triangles (cell_case below i j k)) emit, emitted_le (cell_case below i j k) (case_of_lt (corner_below below i j k))))))

pub vertices_le : (nx ny nz : ℕ) → 2 ≤ nx → 2 ≤ ny → 2 ≤ nz → (below : ℕ → ℕ → ℕ → Bool) → length (used (grid_faces nx ny nz below)) ≤ 3 * (nx * ny * nz)
vertices_le nx ny nz hx hy hz below =
    omega (
      arith,
      used_members nx ny nz hx hy hz below,
      sum_le (3 * (nx * ny * nz)) (λ e. bit (member e (used (grid_faces nx ny nz below)))) (λ e. 1) (λ e b. bit_le (member e (used (grid_faces nx ny nz below)))),
      sum_const (3 * (nx * ny * nz)) 1,
    )
