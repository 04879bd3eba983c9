-- IEEE 754's overflow, of `round` in either format: the result is an infinity exactly where the exact result is 2 ^ emax * (2 - 2 ^ -prec) in size or
-- more (`round_infinite`, `round_finite`). That is the middle of the largest value, Q * 2 ^ last units with Q = 2 ^ prec - 1, and the next one,
-- 2 ^ prec * 2 ^ last; and Q is odd, so a tie goes up. Assumes nothing.
use Rattle.std.specs.Prelude.{◌≡◌, ℕ, suc, ◌+◌, ◌-◌, ◌*◌, ◌/◌, ◌%◌, ◌^◌, ◌<◌, ◌≤◌, Bool, T, refl, Float}
use Rattle.std.proofs.Common.{sym, ap, ◌∙◌, subst, inl, inr, le_trans, le_of_eq, le_of_lt, lt_of_lt_of_le, lt_of_le_of_lt, eq-or-lt_of_le, mul_comm, mul_assoc, mul_right_comm, add-mul, one-mul, mul-le-mul_right, mul-lt-mul_of_pos_right, lt_of_mul-lt-mul_right, le_of_mul-le-mul_right, le-div_iff_mul-le, div-lt_iff_lt-mul, div-add-mod', mod-lt, arith, lit≤, pow-add, pow_pos, pow_mono}
use Prim.Native.Nat.{compare}
use Rattle.std.proofs.Math.Nat.{pow-succ'}
use Rattle.std.proofs.Math.Pow.{pow-lt}
use Rattle.std.specs.Float.{nan, inf, fin, Format, binary32, binary64}
use Rattle.std.specs.Float.Ieee.{prec, emax, low, size, units, round}
use Rattle.std.specs.Float.Ieee.Digits.{size-le}
use Rattle.std.specs.Float.Ieee.Fits.{two, two-le_pos, round_is}
use Rattle.std.specs.Float.Ieee.Exact.{HasValue, units_val}
use Rattle.std.specs.Float.Ieee.Nearest.{closest}
use Rattle.std.specs.Float.Ieee.Order.{drop, kept}
use Rattle.std.specs.Float.Ieee.Scale.{finite, overflow}
use Rattle.numbers.specs.Ieee754.{limit}
use Rattle.numbers.proofs.Laws.Binary.{double, size_gt, cmp}
use Rattle.numbers.proofs.Laws.Patterns.{units_inf}
use Rattle.numbers.proofs.Laws.RoundNearest.{taken, unit_pos, kept_le, kept_ge}
use Rattle.numbers.specs.Laws.RoundNearest.{Taken}

-- ---- a fraction n / u compared with the middle Q + 1/2

module _ (n u Q : ℕ) (U : 0 < u) where
  choice : Taken (n / u) u (n % u) (closest n u)
  choice = taken (n / u) u (n % u) (compare (n % u * 2) u) (cmp (n % u * 2) u)

  parts : n / u * u + n % u ≡ n
  parts = div-add-mod' n u

  -- 2 * q * u, and (2 * q + 1) * u
  twice : (q : ℕ) → 2 * q * u ≡ 2 * (q * u)
  twice q = mul_assoc 2 q u

  middle : (q : ℕ) → (2 * q + 1) * u ≡ 2 * (q * u) + u
  middle q = add-mul (2 * q) 1 u ∙ (let a = twice q in let b = one-mul u in let z : 2 * q * u + 1 * u ≡ 2 * (q * u) + u = omega arith in z)

  closest_under : 2 * n < (2 * Q + 1) * u → closest n u ≤ Q
  closest_under h = elim choice [
    | inl g ↦
        let p = parts in
        let a = twice (n / u) in
        let l : 2 * (n / u) < 2 * Q + 1 = lt_of_mul-lt-mul_right u (let z : 2 * (n / u) * u < (2 * Q + 1) * u = omega arith in z) in
        let e = g.0 in
        omega arith
    | inr g ↦
        let p = parts in
        let a = middle (n / u) in
        let b = g.1 in
        let l : 2 * (n / u) + 1 < 2 * Q + 1 = lt_of_mul-lt-mul_right u (let z : (2 * (n / u) + 1) * u < (2 * Q + 1) * u = omega arith in z) in
        let e = g.0 in
        omega arith
  ]

  closest_over : Q % 2 ≡ 1 → (2 * Q + 1) * u ≤ 2 * n → suc Q ≤ closest n u
  closest_over odd h = elim choice [ inl g ↦ at_low g | inr g ↦ at_high g ]
    where
      at_low : (closest n u ≡ n / u) × (n % u * 2 ≤ u) × (n % u * 2 ≡ u → n / u % 2 ≡ 0) → suc Q ≤ closest n u
      at_low g =
          let p = parts in
          let a = middle (n / u) in
          let b = g.1 in
          let l : 2 * Q + 1 ≤ 2 * (n / u) + 1 = le_of_mul-le-mul_right {k = u} (let z : (2 * Q + 1) * u ≤ (2 * (n / u) + 1) * u = omega arith in z) U in
          elim (eq-or-lt_of_le (let z : Q ≤ n / u = omega arith in z)) [
            | inr less ↦ (let e = g.0 in omega arith)
            | inl same ↦
                let c : (2 * Q + 1) * u ≡ 2 * (n / u * u) + u = ap (λ (x : ℕ). (2 * x + 1) * u) same ∙ a in
                let even : n / u % 2 ≡ 0 = g.2 (omega arith) in
                let odd' : n / u % 2 ≡ 1 = ap (λ (x : ℕ). x % 2) (sym same) ∙ odd in
                absurd (let z : ⊥ = omega arith in z)
          ]

      at_high : (closest n u ≡ suc (n / u)) × (u ≤ n % u * 2) × (n % u * 2 ≡ u → suc (n / u) % 2 ≡ 0) → suc Q ≤ closest n u
      at_high g =
          let p = parts in
          let m : n % u < u = mod-lt n U in
          let a = middle (n / u) in
          let t : (2 * (n / u) + 2) * u ≡ 2 * (n / u * u) + 2 * u = add-mul (2 * (n / u)) 2 u ∙ ap (λ (x : ℕ). x + 2 * u) (twice (n / u)) in
          let l : 2 * Q + 1 < 2 * (n / u) + 2 = lt_of_mul-lt-mul_right u (let z : (2 * Q + 1) * u < (2 * (n / u) + 2) * u = omega arith in z) in
          let e = g.0 in
          omega arith

-- ---- the limit in units: twice it is the odd number 2 ^ (prec + 1) - 1 with `last` zeros, and the overflow is 2 ^ prec with as many

reaches : (f : Format) → prec f ≤ emax f
reaches binary32 = lit≤ tt
reaches binary64 = lit≤ tt

limit_is : (f : Format) → limit f ≡ (2 ^ suc (prec f) - 1) * 2 ^ (emax f - prec f)
limit_is binary32 = refl
limit_is binary64 = refl

module _ (f : Format) where
  abbrev last : ℕ
  last = 2 * emax f - 1

  abbrev largest : ℕ
  largest = 2 ^ prec f - 1

  middle_is : 2 ^ suc (prec f) - 1 ≡ 2 * (2 ^ prec f - 1) + 1
  middle_is = let a = pow-succ' 2 (prec f) in let b = pow_pos (prec f) in omega arith

  odd_largest : (2 ^ prec f - 1) % 2 ≡ 1
  odd_largest = let a = double (prec f) (two-le_pos (prec f) (two f)) in let b = pow_pos (prec f - 1) in omega arith

  one : 1 ≤ emax f
  one = let a = two f in let b = reaches f in omega arith

  limit_units : 2 * (limit f * 2 ^ low f) ≡ (2 * largest + 1) * 2 ^ last
  limit_units =
      let a = 2 ^ suc (prec f) - 1 in
      let p = two f in
      let r = reaches f in
      let o = one in
      mul_comm 2 (limit f * 2 ^ low f)
      ∙ ap (λ (x : ℕ). x * 2 ^ low f * 2) (limit_is f)
      ∙ ap (λ (x : ℕ). x * 2) (mul_assoc a (2 ^ (emax f - prec f)) (2 ^ low f) ∙ ap (λ (x : ℕ). a * x) (sym (pow-add 2 (emax f - prec f) (low f))))
      ∙ mul_assoc a (2 ^ (emax f - prec f + low f)) 2
      ∙ ap (λ (x : ℕ). a * x) (sym (pow-add 2 (emax f - prec f + low f) 1))
      ∙ ap (λ (x : ℕ). a * 2 ^ x) (let z : emax f - prec f + (emax f + prec f - 2) + 1 ≡ 2 * emax f - 1 = omega arith in z)
      ∙ ap (λ (x : ℕ). x * 2 ^ last) middle_is

  overflow_is : overflow f ≡ 2 ^ prec f * 2 ^ last
  overflow_is =
      let p = two f in
      let o = one in
      ap (λ (x : ℕ). 2 ^ x) (let z : emax f + prec f - 2 + suc (emax f) ≡ prec f + (2 * emax f - 1) = omega arith in z) ∙ pow-add 2 (prec f) last

  -- the limit lies between the half of the overflow and the overflow
  limit_under : limit f * 2 ^ low f < overflow f
  limit_under =
      let a = limit_units in
      let b = overflow_is in
      let h = pow_pos (prec f) in
      let c : (2 * largest + 1) * 2 ^ last < 2 * 2 ^ prec f * 2 ^ last = mul-lt-mul_of_pos_right (omega arith) (pow_pos last) in
      let d : 2 * 2 ^ prec f * 2 ^ last ≡ 2 * (2 ^ prec f * 2 ^ last) = mul_assoc 2 (2 ^ prec f) (2 ^ last) in
      omega arith

  limit_over : overflow f ≤ 2 * (limit f * 2 ^ low f)
  limit_over =
      let h = pow_pos (prec f) in
      le_trans (le_of_eq overflow_is) (le_trans (mul-le-mul_right (2 ^ last) (let z : 2 ^ prec f ≤ 2 * largest + 1 = omega arith in z)) (le_of_eq (sym limit_units)))

-- ---- what `round` keeps, against the limit
module _ (f : Format) (s : Bool) (num den : ℕ) (D : 0 < den) where
  abbrev n : ℕ
  n = num * 2 ^ low f

  abbrev k : ℕ
  k = drop (prec f) (num * 2 ^ low f) den

  abbrev c : ℕ
  c = kept (prec f) (num * 2 ^ low f) den

  -- both sides of a comparison with the limit, times 2 ^ low
  in_units : (m : ℕ) → limit f * 2 ^ low f * m ≡ limit f * m * 2 ^ low f
  in_units m = mul_right_comm (limit f) (2 ^ low f) m

  twice_limit : k ≡ last f → (2 * largest f + 1) * (den * 2 ^ k) ≡ 2 * (limit f * den * 2 ^ low f)
  twice_limit e =
      ap (λ (x : ℕ). (2 * largest f + 1) * x) (mul_comm den (2 ^ k) ∙ ap (λ (x : ℕ). 2 ^ x * den) e)
      ∙ sym (mul_assoc (2 * largest f + 1) (2 ^ last f) den)
      ∙ ap (λ (x : ℕ). x * den) (sym (limit_units f))
      ∙ mul_assoc 2 (limit f * 2 ^ low f) den
      ∙ ap (λ (x : ℕ). 2 * x) (in_units den)

  last_is : (2 ^ prec f * 2 ^ last f ≡ overflow f) × (suc (largest f) ≡ 2 ^ prec f)
  last_is = (sym (overflow_is f), let h = pow_pos (prec f) in omega arith)

  total : low f + suc (emax f) ≡ prec f + last f
  total = let p = two f in let o = one f in let z : emax f + prec f - 2 + suc (emax f) ≡ prec f + (2 * emax f - 1) = omega arith in z

  -- ---- at the limit and above it
  module _ (h : limit f * den ≤ num) where
    over : limit f * den * 2 ^ low f ≤ n
    over = mul-le-mul_right (2 ^ low f) h

    enough : last f ≤ k
    enough =
        let w = prec f + last f in
        let o = one f in
        let p = two f in
        let a : 2 * 2 ^ (w - 1) ≡ overflow f = sym (double w (let z : 0 < w = omega arith in z)) ∙ ap (λ (x : ℕ). 2 ^ x) (sym total) in
        let b = limit_over f in
        let l : 2 ^ (w - 1) ≤ limit f * 2 ^ low f = omega arith in
        let g : 2 ^ (w - 1) ≤ n / den = (le-div_iff_mul-le D).1 (le_trans (mul-le-mul_right den l) (le_trans (le_of_eq (in_units den)) over)) in
        let z : w - 1 < size (n / den) = size_gt (n / den) (w - 1) g in
        omega arith

    past : overflow f ≤ c * 2 ^ k
    past = elim (eq-or-lt_of_le enough) [
      | inl e ↦
          let a = twice_limit (sym e) in
          let b = over in
          let l : suc (largest f) ≤ c = closest_over n (den * 2 ^ k) (largest f) (unit_pos f num den D) (odd_largest f) (omega arith) in
          le_trans (le_of_eq (overflow_is f ∙ ap (λ (x : ℕ). 2 ^ prec f * 2 ^ x) e)) (mul-le-mul_right (2 ^ k) (le_trans (le_of_eq (sym last_is.1)) l))
      | inr l ↦
          let o = one f in
          let p = two f in
          let a : overflow f ≤ 2 ^ (prec f - 1 + k) = pow_mono (let t = total in let z : low f + suc (emax f) ≤ prec f - 1 + k = omega arith in z) in
          le_trans a (le_trans (le_of_eq (pow-add 2 (prec f - 1) k)) (mul-le-mul_right (2 ^ k) (kept_ge f num den D (let z : 0 < k = omega arith in z))))
    ]

    pub round_infinite : round f s num den ≡ inf s
    round_infinite = round_is f s num den ∙ units_inf f s c k past

  -- ---- below the limit
  module _ (h : num < limit f * den) where
    below : n < limit f * den * 2 ^ low f
    below = mul-lt-mul_of_pos_right h (pow_pos (low f))

    few : k ≤ last f
    few =
        let l : limit f * 2 ^ low f ≤ overflow f = le_of_lt (limit_under f) in
        let g : n < overflow f * den = lt_of_lt_of_le below (le_trans (le_of_eq (sym (in_units den))) (mul-le-mul_right den l)) in
        let z : size (n / den) ≤ low f + suc (emax f) = size-le (n / den) (low f + suc (emax f)) ((div-lt_iff_lt-mul D).1 g) in
        let t = total in
        omega arith

    short : c * 2 ^ k < overflow f
    short = elim (eq-or-lt_of_le few) [
      | inl e ↦
          let a = twice_limit e in
          let b = below in
          let l : c ≤ largest f = closest_under n (den * 2 ^ k) (largest f) (unit_pos f num den D) (omega arith) in
          let m : c < 2 ^ prec f = (let z = last_is.1 in omega arith) in
          lt_of_lt_of_le (mul-lt-mul_of_pos_right m (pow_pos k)) (le_of_eq (ap (λ (x : ℕ). 2 ^ prec f * 2 ^ x) e ∙ last_is.0))
      | inr l ↦
          lt_of_le_of_lt (mul-le-mul_right (2 ^ k) (kept_le f num den D))
          (lt_of_le_of_lt (le_of_eq (sym (pow-add 2 (prec f) k))) (pow-lt (let t = total in let z : prec f + k < low f + suc (emax f) = omega arith in z)))
    ]

    finite_value : (v : Float) (a m : ℕ) → HasValue v s a m → T (finite v)
    finite_value nan a m w = absurd w
    finite_value (inf t) a m w = absurd w
    finite_value (fin t i e) a m w = tt

    pub round_finite : T (finite (round f s num den))
    round_finite = subst (λ (v : Float). T (finite v)) (sym (round_is f s num den)) (finite_value (units f s c k) (c * 2 ^ k) (2 ^ low f) (units_val f s c k short))
