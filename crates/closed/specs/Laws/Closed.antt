-- What the theorem of the closed mesh (proofs/Laws/Closed) asks of the cells: each cell's directed pairs balance but for what its six sides yield, two
-- neighbours' sides yield opposite pairs, and the outermost sides yield none. Cells are numbered 0 .. nx - 2, 0 .. ny - 2, 0 .. nz - 2. Definitions only;
-- assumes nothing.
use Rattle.std.specs.Prelude.{◌≡◌, ℕ, ◌+◌, ◌-◌, ◌<◌}
use Rattle.closed.specs.Lists.{sum3}

-- How many times the cell i j k yields the directed pair of edge ids from a to b.
abbrev pub PerCell : Type 0
PerCell = ℕ → ℕ → ℕ → ℕ → ℕ → ℕ

-- What is asked of the cells. `fwd` counts the faces of a cell that run from a to b; xm, xp .. count the directed pairs of the cell's side towards
-- lower and higher x, y and z.
pub record Matched (nx ny nz : ℕ) (fwd xm xp ym yp zm zp : PerCell) : Type 0 where
  -- a cell's faces balance, but for what its sides yield
  pub cell : (i j k a b : ℕ) → i < nx - 1 → j < ny - 1 → k < nz - 1
      → fwd i j k a b + (xm i j k b a + xp i j k b a + (ym i j k b a + yp i j k b a) + (zm i j k b a + zp i j k b a))
      ≡ fwd i j k b a + (xm i j k a b + xp i j k a b + (ym i j k a b + yp i j k a b) + (zm i j k a b + zp i j k a b))
  -- neighbours yield opposite pairs on the side that they share
  pub next_x : (i j k a b : ℕ) → i + 1 < nx - 1 → j < ny - 1 → k < nz - 1 → xp i j k a b ≡ xm (i + 1) j k b a
  pub next_y : (i j k a b : ℕ) → i < nx - 1 → j + 1 < ny - 1 → k < nz - 1 → yp i j k a b ≡ ym i (j + 1) k b a
  pub next_z : (i j k a b : ℕ) → i < nx - 1 → j < ny - 1 → k + 1 < nz - 1 → zp i j k a b ≡ zm i j (k + 1) b a
  -- the outermost sides yield nothing
  pub first_x : (j k a b : ℕ) → j < ny - 1 → k < nz - 1 → xm 0 j k a b ≡ 0
  pub last_x : (j k a b : ℕ) → j < ny - 1 → k < nz - 1 → xp (nx - 2) j k a b ≡ 0
  pub first_y : (i k a b : ℕ) → i < nx - 1 → k < nz - 1 → ym i 0 k a b ≡ 0
  pub last_y : (i k a b : ℕ) → i < nx - 1 → k < nz - 1 → yp i (ny - 2) k a b ≡ 0
  pub first_z : (i j a b : ℕ) → i < nx - 1 → j < ny - 1 → zm i j 0 a b ≡ 0
  pub last_z : (i j a b : ℕ) → i < nx - 1 → j < ny - 1 → zp i j (nz - 2) a b ≡ 0

-- the whole grid's count of a pair
unfoldable pub total : ℕ → ℕ → ℕ → PerCell → ℕ → ℕ → ℕ
total nx ny nz f a b = sum3 (nx - 1) (ny - 1) (nz - 1) (λ i j k. f i j k a b)
