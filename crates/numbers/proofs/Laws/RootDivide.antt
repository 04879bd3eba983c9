-- The lower half of a root's digits by one division. t has the root s, and n is t * a * a. With q = (t - s * s) * a / (2 * s), s * a + q is the root of
-- n, or one more than that (`exact`, `less`). The reason is the balance n + q ^ 2 = (s * a + q) ^ 2 + over * a, where `over` is the remainder of the
-- division. Assumes nothing.
use Rattle.std.specs.Prelude.{◌≡◌, ℕ, ◌+◌, ◌-◌, ◌*◌, ◌/◌, ◌%◌, ◌^◌, ◌<◌, ◌≤◌}
use Rattle.std.proofs.Common.{sym, ap, ◌∙◌, le_trans, le_of_eq, lt_of_lt_of_le, lt_of_le_of_lt, mul_comm, mul_assoc, mul_right_comm, le-mul_of_pos_right, add-mul, mul-le-mul, mul-le-mul_left, mul-le-mul_right, mul-lt-mul_of_pos_right, le_of_mul-le-mul_right, div-mul-le_self, arith, pow-add, pow_pos, pow_mono, shl_lt}
use Rattle.std.proofs.Math.Nat.{mul-mul-mul_comm, lt-div-mul-add}
use Rattle.numbers.proofs.Laws.Binary.{double}
use Rattle.numbers.proofs.Laws.Squares.{square_sum, sum_square, square_mono, square_lt_back}
use Rattle.numbers.specs.Laws.Squares.{IsRoot}
use Rattle.numbers.specs.Laws.RootDivide.{Split}

module _ (n t s a : ℕ) (k : Split n t s a) where
  -- ---- bounds: everything stays below 2 ^ 56

  pub s_lt : s < 2 ^ 27
  s_lt = square_lt_back s (2 ^ 27) (lt_of_le_of_lt k.is.0 k.size)

  a_le : a ≤ s * 2
  a_le =
      let h = k.full in
      let g = k.is.1 in
      let e = sum_square (s + 1) in
      let c : a < s + 1 + (s + 1) = square_lt_back a (s + 1 + (s + 1)) (omega arith) in
      let d = k.even in
      omega arith

  pub s_pos : 0 < s
  s_pos = let h = a_le in let g = k.some in omega arith

  left_le : t - s * s ≤ s * 2
  left_le = let g = k.is.1 in let e = square_sum s 1 in omega arith

  pub product_lt : s * 2 * a < 2 ^ 56
  product_lt =
      let g = s_lt in
      let h : s * 2 * a ≤ 2 ^ 28 * 2 ^ 27 = mul-le-mul (let z : s * 2 ≤ 2 ^ 28 = omega arith in z) k.small in
      omega arith

  rest_le : (t - s * s) * a ≤ s * 2 * a
  rest_le = mul-le-mul_right a left_le

  pub rest_lt : (t - s * s) * a < 2 ^ 56
  rest_lt = lt_of_le_of_lt rest_le product_lt

  pub lower_lt : s * a < 2 ^ 56
  lower_lt = let h = product_lt in let e : s * 2 * a ≡ s * a * 2 = mul_right_comm s 2 a in omega arith

  -- ---- the division of `rest`, by its quotient q and its remainder `over`
  module _ (rest : ℕ) (r : rest ≡ (t - s * s) * a) where
    abbrev q : ℕ
    q = rest / (s * 2)

    abbrev over : ℕ
    over = rest - rest / (s * 2) * (s * 2)

    double_pos : 0 < s * 2
    double_pos = let h = s_pos in omega arith

    pub q_le : q ≤ a
    q_le =
        le_of_mul-le-mul_right {k = s * 2}
        (le_trans (div-mul-le_self rest (s * 2)) (le_trans (le_of_eq r) (le_trans rest_le (le_of_eq (mul_comm (s * 2) a))))) double_pos

    over_lt : over < s * 2
    over_lt = let h : rest < q * (s * 2) + s * 2 = lt-div-mul-add double_pos in let g = double_pos in omega arith

    pub over_small : over * a < s * 2 * a
    over_small = mul-lt-mul_of_pos_right over_lt k.some

    pub square_small : q * q < 2 ^ 56
    square_small = let h : q * q ≤ 2 ^ 27 * 2 ^ 27 = square_mono (le_trans q_le k.small) in omega arith

    parts : rest ≡ q * (s * 2) + over
    parts = let h : q * (s * 2) ≤ rest = div-mul-le_self rest (s * 2) in omega arith

    balance : n + q * q ≡ (s * a + q) * (s * a + q) + over * a
    balance =
        let d = t - s * s in
        let t_is : t ≡ s * s + d = (let h = k.is.0 in omega arith) in
        let n_is : n ≡ s * s * (a * a) + d * (a * a) = sym k.all ∙ ap (λ (y : ℕ). y * (a * a)) t_is ∙ add-mul (s * s) d (a * a) in
        let rest_is : d * (a * a) ≡ (q * (s * 2) + over) * a = sym (mul_assoc d a a) ∙ ap (λ (y : ℕ). y * a) (sym r ∙ parts) in
        let open_is : (q * (s * 2) + over) * a ≡ q * (s * 2) * a + over * a = add-mul (q * (s * 2)) over a in
        let mix : q * (s * 2) * a ≡ 2 * (s * a * q) = simp (mul_assoc, mul_comm) in
        let sq : (s * a + q) * (s * a + q) ≡ s * a * (s * a) + 2 * (s * a * q) + q * q = square_sum (s * a) q in
        let ss : s * a * (s * a) ≡ s * s * (a * a) = mul-mul-mul_comm s a s a in
        omega arith

    split : s * 2 * a ≡ 2 * (s * a)
    split = mul_right_comm s 2 a ∙ mul_comm (s * a) 2

    -- the division's digits are right
    pub exact : q * q ≤ over * a → IsRoot n (s * a + q)
    exact h =
        let b = balance in
        let c = over_small in
        let d = split in
        let sq = square_sum (s * a + q) 1 in
        (omega arith, omega arith)

    -- or they are one too many
    q_pos : over * a < q * q → 0 < q
    q_pos h = square_lt_back 0 q (let z : 0 * 0 < q * q = omega arith in z)

    pub positive : over * a < q * q → 1 ≤ s * a + q
    positive h = let g = q_pos h in omega arith

    pub less : over * a < q * q → IsRoot n (s * a + q - 1)
    less h =
        let b = balance in
        let g = q_pos h in
        let m = s * a + q - 1 in
        let sq = square_sum m 1 in
        let re : (s * a + q) * (s * a + q) ≡ (m + 1) * (m + 1) = ap (λ (y : ℕ). y * y) (let e : s * a + q ≡ m + 1 = omega arith in e) in
        let qq : q * q ≤ a * a = square_mono q_le in
        let aa : a * a ≤ s * 2 * a = mul-le-mul_right a a_le in
        let d = split in
        (omega arith, omega arith)

-- ---- t and a of x * 2 ^ h: the lower half has h / 2 digits, and t is x, or 2 * x where h is odd

pub top_lt : (x h : ℕ) → x < 2 ^ h → h ≤ 54 → x * 2 ^ (h % 2) < 2 ^ 54
top_lt x h X H = lt_of_lt_of_le (shl_lt h (h % 2) X) (pow_mono {j = 54} (let z : h + h % 2 ≤ 54 = omega arith in z))

module _ (x h s : ℕ) (X : x < 2 ^ h) (L : 2 ^ h ≤ 4 * x) (T : 2 ≤ h) (H : h ≤ 54) (is : IsRoot (x * 2 ^ (h % 2)) s) where
  abbrev t : ℕ
  t = x * 2 ^ (h % 2)

  abbrev a : ℕ
  a = 2 ^ (h / 2)

  square : a * a ≡ 2 ^ (h / 2 + h / 2)
  square = sym (pow-add 2 (h / 2) (h / 2))

  all : t * (a * a) ≡ x * 2 ^ h
  all =
      mul_assoc x (2 ^ (h % 2)) (a * a)
      ∙ ap (λ (y : ℕ). x * y)
      (ap (λ (y : ℕ). 2 ^ (h % 2) * y) square
      ∙ sym (pow-add 2 (h % 2) (h / 2 + h / 2))
      ∙ ap (λ (y : ℕ). 2 ^ y) (let z : h % 2 + (h / 2 + h / 2) ≡ h = omega arith in z))

  full : a * a ≤ 4 * t
  full =
      le_trans (le_of_eq square)
      (le_trans (pow_mono (let z : h / 2 + h / 2 ≤ h = omega arith in z)) (le_trans L (mul-le-mul_left 4 (le-mul_of_pos_right x (pow_pos (h % 2))))))

  pub split_of : Split (x * 2 ^ h) t s a
  split_of = record {
    is = is;
    size = top_lt x h X H;
    small = pow_mono {j = 27} (let z : h / 2 ≤ 27 = omega arith in z);
    even = let e : a ≡ 2 * 2 ^ (h / 2 - 1) = double (h / 2) (omega arith) in omega arith;
    some = pow_pos (h / 2);
    full = full;
    all = all;
  }
