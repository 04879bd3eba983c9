-- The pattern of a root from the pattern b of x, which is finite and above zero: k and m are x's exponent and significand, z zeros put the leading digit
-- of m in its place, and r is the root of that, with one zero more where the exponent n = k + e - 1 - z is odd, and p + 1 zeros. Then n / 2 is the root's
-- exponent, and (r + 1) / 2 its significand (`root_pattern`). Assumes nothing.
use Rattle.std.specs.Prelude.{◌≡◌, ℕ, zero, suc, ◌+◌, ◌-◌, ◌*◌, ◌/◌, ◌%◌, ◌^◌, ◌<◌, ◌≤◌, true, false, from_bits, Float}
use Rattle.std.proofs.Common.{sym, ap, ◌∙◌, subst, inl, inr, true≢false, le_trans, le_of_eq, le_of_suc-le-suc, lt_irrefl, lt_of_lt_of_le, lt_of_le_of_lt, eq-zero-or-pos, mul_comm, mul_assoc, mul_right_comm, mul-pos, add-mul, suc-mul, mul-one, zero-mul, mul-le-mul_right, le-mul_of_pos_right, pow-suc, div-add-mod', div-lt_iff_lt-mul, mul-div_cancel, mod-lt, arith, lit≤, pow-add, pow_pos, pow_mono, shl_lt}
use Rattle.std.proofs.Math.Nat.{mul-mod_left}
use Rattle.std.specs.Int.Count.{count_leading_zeros}
use Rattle.std.proofs.lemmas.Nat.{leading_top}
use Rattle.std.specs.Float.{nan, inf, fin, Format, binary32, binary64}
use Rattle.std.specs.Float.Ieee.{prec, emax, low, up, down, units, hid, ones}
use Rattle.std.specs.Float.Ieee.Fits.{down_pos}
use Rattle.std.specs.Float.Ieee.Exact.{HasValue}
use Rattle.numbers.specs.Arithmetic.{root_rounded, rooted}
use Rattle.numbers.proofs.Laws.Binary.{pow_lt_back, pow_sums, double, shift_twice}
use Rattle.numbers.proofs.Laws.Squares.{square_sum, square_lt_back}
use Rattle.numbers.specs.Laws.Squares.{IsRoot}
use Rattle.numbers.proofs.Laws.RootWhole.{rounded_is}
use Rattle.numbers.proofs.Laws.Patterns.{value, written, written_lt}
use Rattle.numbers.specs.Laws.Patterns.{expo, sig}
use Rattle.numbers.specs.Laws.RootPattern.{zeros, power, wide, Sizes, Shift, Known}

-- ---- the code's numbers, for a format of p digits whose largest values have the exponent e

pub sizes : (f : Format) → Sizes (prec f) (emax f)
sizes binary32 = record { two = lit≤ tt; most = lit≤ tt; reach = lit≤ tt; last = lit≤ tt }
sizes binary64 = record { two = lit≤ tt; most = lit≤ tt; reach = lit≤ tt; last = lit≤ tt }

-- ---- b = k * 2 ^ (p - 1) + m: the significand m is above zero and below 2 ^ p

fields : (b h q t : ℕ) → q * h + t ≡ b → t < h → 0 < b → ((q - 1) * h ≤ b) × (0 < b - (q - 1) * h) × (b - (q - 1) * h < 2 * h)
fields b h zero t e l B = let z : 0 * h ≡ 0 = zero-mul h in (omega arith, omega arith, omega arith)
fields b h (suc q) t e l B =
    let z : suc q * h ≡ q * h + h = suc-mul q h in
    subst (λ (y : ℕ). (y * h ≤ b) × (0 < b - y * h) × (b - y * h < 2 * h)) (let w : q ≡ suc q - 1 = omega arith in w) (omega arith)

record Numbers (p e b : ℕ) : Type 0 where
  taken : expo p b * 2 ^ (p - 1) ≤ b
  positive : 0 < sig p b
  under : sig p b < 2 ^ p
  field : expo p b < 2 * e

numbers : (p e b : ℕ) → Sizes p e → 0 < b → b < (2 * e + 1) * 2 ^ (p - 1) → Numbers p e b
numbers p e b z B F =
    let h = 2 ^ (p - 1) in
    let x = fields b h (b / h) (b % h) (div-add-mod' b h) (mod-lt b (pow_pos (p - 1))) B in
    let d : 2 ^ p ≡ 2 * h = double p (let t = z.two in omega arith) in
    let q : b / h < 2 * e + 1 = (div-lt_iff_lt-mul (pow_pos (p - 1))).1 F in
    record { taken = x.0; positive = x.1; under = subst (λ (y : ℕ). sig p b < y) (sym d) x.2; field = omega arith }

shift : (p m : ℕ) → 2 ≤ p → p ≤ 53 → 0 < m → m < 2 ^ p → Shift p m
shift p m P W M U =
    let t = leading_top 64 m M (lt_of_lt_of_le U (pow_mono (let x : p ≤ 64 = omega arith in x))) in
    let j = t.0 in
    let c : count_leading_zeros 64 m + suc j ≡ 64 = t.1 in
    let l : j < p = pow_lt_back j p (lt_of_le_of_lt t.2 U) in
    let z = zeros p m in
    let s : j + z ≡ p - 1 = omega arith in
    let s' : suc j + z ≡ p = omega arith in
    record {
      enough = omega arith;
      few = omega arith;
      low = le_trans (le_of_eq (ap (λ (y : ℕ). 2 ^ y) (sym s) ∙ pow-add 2 j z)) (mul-le-mul_right (2 ^ z) t.2);
      high = subst (λ (y : ℕ). m * 2 ^ z < 2 ^ y) s' (shl_lt (suc j) z t.3);
    }

-- ---- with one zero more where the exponent is odd: c is 0 or 1
module _ (p m z c : ℕ) (P : 2 ≤ p) (lo : 2 ^ (p - 1) ≤ m * 2 ^ z) (hi : m * 2 ^ z < 2 ^ p) (C : c ≤ 1) where
  abbrev w : ℕ
  w = m * 2 ^ (z + c)

  one_more : w ≡ m * 2 ^ z * 2 ^ c
  one_more = sym (shift_twice m z c)

  wide_lt : w < 2 ^ (p + 1)
  wide_lt = lt_of_le_of_lt (le_of_eq one_more) (lt_of_lt_of_le (shl_lt p c hi) (pow_mono (let x : p + c ≤ p + 1 = omega arith in x)))

  wide_ge : 2 ^ (p - 1) ≤ w
  wide_ge = le_trans lo (le_trans (le-mul_of_pos_right (m * 2 ^ z) (pow_pos c)) (le_of_eq (sym one_more)))

  wide_room : w + 2 ≤ 2 ^ (p + 1)
  wide_room =
      let u : 2 ^ (p + 1) ≡ 2 ^ p * 2 = pow-add 2 p 1 in
      let o = one_more in
      let h = hi in
      elim (eq-zero-or-pos c) [
        | inl n ↦ (let v : m * 2 ^ z * 2 ^ c ≡ m * 2 ^ z = ap (λ (y : ℕ). m * 2 ^ z * 2 ^ y) n ∙ mul-one (m * 2 ^ z) in omega arith)
        | inr n ↦ (let v : m * 2 ^ z * 2 ^ c ≡ m * 2 ^ z * 2 = ap (λ (y : ℕ). m * 2 ^ z * 2 ^ y) (let u : c ≡ 1 = omega arith in u) in omega arith)
      ]

  even : w * 2 ^ (p + 1) % 2 ≡ 0
  even =
      ap (λ (y : ℕ). w * y % 2) (ap (λ (y : ℕ). 2 ^ y) (let x : p + 1 ≡ suc p = omega arith in x) ∙ pow-suc 2 p)
      ∙ ap (λ (y : ℕ). y % 2) (sym (mul_assoc w (2 ^ p) 2))
      ∙ mul-mod_left (w * 2 ^ p) 2

  -- the root of it with p + 1 zeros has p + 1 digits
  module _ (r : ℕ) (is : IsRoot (w * 2 ^ (p + 1)) r) where
    root_ge : 2 ^ p ≤ r
    root_ge =
        let s : 2 ^ p * 2 ^ p ≡ 2 ^ (p - 1) * 2 ^ (p + 1) = pow_sums p p (p - 1) (p + 1) (omega arith) in
        le_of_suc-le-suc
        (subst (λ (y : ℕ). 2 ^ p < y) (let x : r + 1 ≡ suc r = omega arith in x)
        (square_lt_back (2 ^ p) (r + 1) (lt_of_le_of_lt (le_trans (le_of_eq s) (mul-le-mul_right (2 ^ (p + 1)) wide_ge)) is.1)))

    root_lt : r + 1 < 2 ^ (p + 1)
    root_lt = below r (2 ^ (p + 1)) w wide_room is.0
      where
        -- r is below y - 1, by the squares
        below : (r y x : ℕ) → x + 2 ≤ y → r * r ≤ x * y → r + 1 < y
        below r y x h g =
            let t = y - 1 in
            let a : (x + 2) * y ≤ y * y = mul-le-mul_right y h in
            let b : (x + 2) * y ≡ x * y + 2 * y = add-mul x 2 y in
            let d = square_sum t 1 in
            let e : y * y ≡ (t + 1) * (t + 1) = ap (λ (w : ℕ). w * w) (let w : y ≡ t + 1 = omega arith in w) in
            let l : r < t = square_lt_back r t (let w : r * r < t * t = omega arith in w) in
            omega arith

-- ---- the exponents add up
powers : (m a b c d : ℕ) → m * 2 ^ a * 2 ^ b * (2 ^ c * 2 ^ d) ≡ m * 2 ^ (a + b + (c + d))
powers m a b c d =
    ap (λ (y : ℕ). m * 2 ^ a * 2 ^ b * y) (sym (pow-add 2 c d)) ∙ ap (λ (y : ℕ). y * 2 ^ (c + d)) (shift_twice m a b) ∙ shift_twice m (a + b) (c + d)

scale : (p e m k z : ℕ) → 2 ≤ p → p ≤ e → z ≤ p - 1
    → let n = k + e - 1 - z in 4 * (m * 2 ^ k * 2 ^ (e + p - 2)) ≡ m * 2 ^ (z + n % 2) * 2 ^ (p + 1) * (2 ^ (n / 2) * 2 ^ (n / 2))
scale p e m k z P R Z =
    let n = k + e - 1 - z in
    mul_comm 4 (m * 2 ^ k * 2 ^ (e + p - 2))
    ∙ powers m k (e + p - 2) 1 1
    ∙ ap (λ (y : ℕ). m * 2 ^ y) (let x : k + (e + p - 2) + (1 + 1) ≡ z + n % 2 + (p + 1) + (n / 2 + n / 2) = omega arith in x)
    ∙ sym (powers m (z + n % 2) (p + 1) (n / 2) (n / 2))

known_at : (p e b : ℕ) → Sizes p e → 0 < b → b < (2 * e + 1) * 2 ^ (p - 1) → Known p e b (expo p b) (expo p b * 2 ^ (p - 1))
known_at p e b z B F =
    let n = numbers p e b z B F in
    let m = sig p b in
    let s = shift p m z.two z.most n.positive n.under in
    let c = power p e (expo p b) m % 2 in
    let h : power p e (expo p b) m / 2 < 2 ^ 11 = (let f = n.field in let l = z.last in omega arith) in
    let d : 2 ^ (p + 1) ≡ 2 ^ (p - 1) * 2 ^ 2 = ap (λ (y : ℕ). 2 ^ y) (let t = z.two in let x : p + 1 ≡ p - 1 + 2 = omega arith in x) ∙ pow-add 2 (p - 1) 2 in
    record {
      less = n.taken;
      field = n.field;
      shift = s;
      wide_under = wide_lt p m (zeros p m) c z.two s.low s.high (omega arith);
      wide_over = let w = wide_ge p m (zeros p m) c z.two s.low s.high (omega arith) in omega arith;
      half_under = lt_of_lt_of_le (shl_lt 11 (p - 1) h) (pow_mono (let t = z.most in let x : 11 + (p - 1) ≤ 63 = omega arith in x));
    }

pub known : (p e b k s : ℕ) → Sizes p e → 0 < b → b < (2 * e + 1) * 2 ^ (p - 1) → k ≡ expo p b → s ≡ k * 2 ^ (p - 1) → Known p e b k s
known p e b k s z B F ke se =
    subst (λ (y : ℕ). Known p e b k y) (sym se) (subst (λ (y : ℕ). Known p e b y (y * 2 ^ (p - 1))) (sym ke) (known_at p e b z B F))

pub root_under : (p e b k s r : ℕ) → Sizes p e → Known p e b k s → IsRoot (wide p e k (b - s) * 2 ^ (p + 1)) r → r + 1 < 2 ^ (p + 1)
root_under p e b k s r z n is =
    let m = b - s in
    root_lt p m (zeros p m) (power p e k m % 2) z.two n.shift.low n.shift.high (omega arith) r is

-- ---- the root of a value that is a units, a above 0
rooted_is : (f : Format) (x : Float) (a : ℕ) → HasValue x false a (2 ^ low f) → 0 < a → rooted f x ≡ root_rounded f (a * 2 ^ low f)
unfolding rooted
rooted_is f nan a v A = absurd v
rooted_is f (inf s) a v A = absurd v
rooted_is f (fin true m e) a v A = absurd (true≢false v.0)
rooted_is f (fin false zero e) a v A =
    absurd (lt_irrefl 0 (subst (λ (y : ℕ). 0 < y) (sym v.1 ∙ ap (λ (y : ℕ). y * 2 ^ low f) (zero-mul (up e)) ∙ zero-mul (2 ^ low f)) (mul-pos A (down_pos e))))
rooted_is f (fin false (suc m) e) a v A =
    ap (λ (y : ℕ). root_rounded f (y / down e))
    (sym (mul_assoc (suc m * up e) (2 ^ low f) (2 ^ low f)) ∙ ap (λ (y : ℕ). y * 2 ^ low f) v.1 ∙ mul_right_comm a (down e) (2 ^ low f))
    ∙ ap (root_rounded f) (mul-div_cancel (a * 2 ^ low f) (down_pos e))

-- ---- the law
module _ (f : Format) (b k s r : ℕ) (B : 0 < b) (F : b < ones f * hid f) (ke : k ≡ expo (prec f) b) (se : s ≡ k * hid f)
    (is : IsRoot (wide (prec f) (emax f) k (b - s) * 2 ^ (prec f + 1)) r) where
  abbrev p : ℕ
  p = prec f

  abbrev m : ℕ
  m = b - s

  abbrev n : ℕ
  n = power (prec f) (emax f) k (b - s)

  z : Sizes (prec f) (emax f)
  z = sizes f

  facts : Known (prec f) (emax f) b k s
  facts = known (prec f) (emax f) b k s z B F ke se

  -- the root of x is the rounded root of m * 2 ^ k * 2 ^ low
  root_of_value : rooted f (from_bits f b) ≡ root_rounded f (m * 2 ^ k * 2 ^ low f)
  root_of_value =
      let me : m ≡ sig p b = ap (λ (y : ℕ). b - y) (se ∙ ap (λ (y : ℕ). y * hid f) ke) in
      let above : 0 < sig p b * 2 ^ expo p b = mul-pos (numbers p (emax f) b z B F).positive (pow_pos (expo p b)) in
      rooted_is f (from_bits f b) (sig p b * 2 ^ expo p b) (value f b F) above
      ∙ ap (λ (y : ℕ). root_rounded f (y * 2 ^ expo p b * 2 ^ low f)) (sym me)
      ∙ ap (λ (y : ℕ). root_rounded f (m * 2 ^ y * 2 ^ low f)) (sym ke)

  -- and that is (r + 1) / 2 with n / 2 zeros
  root_of_digits : 2 ^ p ≤ r → r + 1 < 2 ^ (p + 1) → root_rounded f (m * 2 ^ k * 2 ^ low f) ≡ units f false ((r + 1) / 2) (n / 2)
  root_of_digits lo hi =
      let ev = even p m (zeros p m) (n % 2) z.two facts.shift.low facts.shift.high (omega arith) in
      let small : r < 2 ^ suc p = subst (λ (y : ℕ). r < 2 ^ y) (let x : p + 1 ≡ suc p = omega arith in x) (let x : r < 2 ^ (p + 1) = omega arith in x) in
      let scaled = scale p (emax f) m k (zeros p m) z.two z.reach facts.shift.few in
      rounded_is (m * 2 ^ k * 2 ^ low f) (wide p (emax f) k m * 2 ^ (p + 1)) (n / 2) r is scaled f lo small ev

  pub root_pattern : (from_bits f (n / 2 * hid f + (r + 1) / 2) ≡ rooted f (from_bits f b)) × (n / 2 * hid f + (r + 1) / 2 < ones f * hid f)
  root_pattern =
      let lo : 2 ^ p ≤ r = root_ge p m (zeros p m) (n % 2) z.two facts.shift.low facts.shift.high (omega arith) r is in
      let hi : r + 1 < 2 ^ (p + 1) = root_under p (emax f) b k s r z facts is in
      let d : 2 ^ p ≡ 2 * hid f = double p (let t = z.two in omega arith) in
      let w : 2 ^ (p + 1) ≡ 2 ^ p * 2 = pow-add 2 p 1 in
      let q_ge : hid f ≤ (r + 1) / 2 = omega arith in
      let q_lt : (r + 1) / 2 < 2 ^ p = omega arith in
      let n_lt : n / 2 + 1 < ones f = (let t = facts.field in let u = z.two in let v = z.reach in omega arith) in
      (written f ((r + 1) / 2) (n / 2) q_ge q_lt n_lt ∙ sym (root_of_digits lo hi) ∙ sym root_of_value, written_lt f ((r + 1) / 2) (n / 2) q_lt n_lt)
