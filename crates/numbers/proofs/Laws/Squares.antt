-- Squares of whole numbers, and the number r that is √n cut to a whole number: r * r ≤ n < (r + 1) * (r + 1). Assumes nothing.
use Rattle.std.specs.Prelude.{◌≡◌, ℕ, ◌+◌, ◌*◌, ◌<◌, ◌≤◌}
use Rattle.std.proofs.Common.{ap, ◌∙◌, le_of_lt, lt_of_le_of_lt, lt_of_not-le, not-le_of_lt, mul_comm, mul-add, add-mul, mul-le-mul, mul-le-mul_left, mul-lt-mul_of_pos_right, arith}
use Rattle.std.proofs.Math.Nat.{mul-mul-mul_comm}

-- (a + b) ^ 2
pub square_sum : (a b : ℕ) → (a + b) * (a + b) ≡ a * a + 2 * (a * b) + b * b
square_sum a b =
    let e : (a + b) * (a + b) ≡ (a + b) * a + (a + b) * b = mul-add (a + b) a b in
    let p : (a + b) * a ≡ a * a + b * a = add-mul a b a in
    let q : (a + b) * b ≡ a * b + b * b = add-mul a b b in
    let c : b * a ≡ a * b = mul_comm b a in
    omega arith

-- (2 * a) ^ 2, and (a + a) ^ 2
pub twice_square : (a : ℕ) → 2 * a * (2 * a) ≡ 4 * (a * a)
twice_square a = mul-mul-mul_comm 2 a 2 a

pub sum_square : (a : ℕ) → (a + a) * (a + a) ≡ 4 * (a * a)
sum_square a = ap (λ (y : ℕ). y * y) (let z : a + a ≡ 2 * a = omega arith in z) ∙ twice_square a

-- ---- order

pub square_mono : {a b : ℕ} → a ≤ b → a * a ≤ b * b
square_mono h = mul-le-mul h h

pub square_lt : (a b : ℕ) → a < b → a * a < b * b
square_lt a b g = lt_of_le_of_lt (mul-le-mul_left a (le_of_lt g)) (mul-lt-mul_of_pos_right g (let p : 0 < b = omega arith in p))

pub square_lt_back : (a b : ℕ) → a * a < b * b → a < b
square_lt_back a b h = lt_of_not-le (λ (g : b ≤ a). not-le_of_lt h (square_mono g))
