-- Row r = i * n + j of the cube, and the rows that its lines cross, lie within the cube. By the digits of r. Assumes nothing.
use Rattle.std.proofs.Common.{subst, suc-mul, mul-le-mul_right, mul_assoc, arith}
use Rattle.std.specs.Prelude.{ℕ, ◌+◌, ◌*◌, ◌/◌, ◌%◌, ◌<◌, ◌≤◌}
use Rattle.grid.specs.Laws.Rows.{row_some, row_of, row_end, square_most, cube_most}

digit_end : (a n m : ℕ) → a < n → a * m + m ≤ n * m
digit_end a n m h = subst (λ (k : ℕ). k ≤ n * m) (suc-mul a m) (mul-le-mul_right m h)

-- what the numbers of row r are made of
pub record Within (n r : ℕ) : Type 0 where
  pub some : 0 < n
  pub square : n * n ≤ 65536
  pub cube : n * n * n ≤ 16777216
  pub row : r * n + n ≤ n * n * n
  pub first_row : r % n * n ≤ n * n
  pub plane : r / n * (n * n) ≤ n * n * n

pub within_cube : (n r : ℕ) → n ≤ 256 → r < n * n → Within n r
within_cube n r most h =
    let a = digit_end (r % n) n n (row_of n n h).1 in
    let b = digit_end (r / n) n (n * n) (row_of n n h).0 in
    record {
      some = row_some n n h;
      square = square_most most;
      cube = cube_most most;
      row = row_end n h;
      first_row = omega arith;
      plane = omega (arith, mul_assoc n n n);
    }

pub planes_within : (n r : ℕ) → r < n * n → (p : ℕ) → p < n → r % n * n + p * (n * n) + n ≤ n * n * n
planes_within n r h p hp = omega (arith, digit_end (r % n) n n (row_of n n h).1, digit_end p n (n * n) hp, mul_assoc n n n)

pub rows_within : (n r : ℕ) → r < n * n → (p : ℕ) → p < n → r / n * (n * n) + p * n + n ≤ n * n * n
rows_within n r h p hp = omega (arith, digit_end (r / n) n (n * n) (row_of n n h).0, digit_end p n n hp, mul_assoc n n n)
