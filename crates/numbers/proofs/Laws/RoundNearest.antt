-- IEEE 754's roundTiesToEven, of `round` in either format. Where the result is finite, it is the value of the format that is nearest to the infinitely
-- precise result, and of two that are equally near the one with the even last digit (`round_nearest`); and no other value is so (`round_only`).
-- In units of the format's smallest value the exact result is n / den, and u is den * 2 ^ k for the k digits that are dropped: the neighbours around it
-- are q and q + 1 times 2 ^ k units, for n = q * u + rest, and the rest decides. `RoundOverflow` says where the result is finite. Assumes nothing.
use Rattle.std.specs.Prelude.{◌≡◌, ℕ, suc, ◌+◌, ◌-◌, ◌*◌, ◌/◌, ◌%◌, ◌^◌, ◌<◌, ◌≤◌, Bool, true, false, cond, not, T, ◌⊎◌, ◌≢◌, nat_lt, to_bits, refl, Float}
use Rattle.std.proofs.Common.{sym, ap, ◌∙◌, subst, inl, inr, le_trans, le_of_eq, eq-zero-or-pos, one-mul, suc-mul, mul_comm, mul_assoc, mul_left_comm, mul-pos, add_comm, add-mul, mul-le-mul_right, mul-lt-mul_of_pos_right, le-div_iff_mul-le, div-add-mod', mod-lt, arith, ltb→lt, nltb→le, pow-add, pow_pos}
use Prim.Native.Nat.{compare, Ordering}
use Rattle.std.proofs.Math.Nat.{eq_of_mul-eq-mul_right, div-div-eq-div-mul}
use Rattle.std.specs.Float.{Format, inf}
use Rattle.std.specs.Float.Ieee.{prec, low, nearest, odd, units, round, hid, ones, top}
use Rattle.std.specs.Float.Ieee.Digits.{size_reaches}
use Rattle.std.specs.Float.Ieee.Fits.{two, two-le_pos, kept-lt, nearest-le, round_is, round-fits}
use Rattle.std.specs.Float.Ieee.Exact.{HasValue, units_val}
use Rattle.std.specs.Float.Ieee.Nearest.{nearest-ge}
use Rattle.std.specs.Float.Ieee.Order.{drop, kept}
use Rattle.std.specs.Float.Ieee.Scale.{finite, overflow}
use Rattle.numbers.specs.Ieee754.{Size, fraction, Value, at_middle, TiesToEven}
use Rattle.numbers.proofs.Laws.Binary.{double, cmp}
use Rattle.numbers.specs.Laws.Binary.{Cmp}
use Rattle.numbers.proofs.Laws.Spacing.{gap, digits_of}
use Rattle.numbers.specs.Laws.Spacing.{Digits}
use Rattle.numbers.proofs.Laws.Patterns.{bits_of, same_value}
use Rattle.numbers.specs.Laws.Patterns.{pattern}
use Rattle.numbers.specs.Laws.RoundNearest.{Taken}

-- the distance of a and b
abbrev apart : ℕ → ℕ → ℕ
apart a b = a - b + (b - a)

-- ---- which of the two multiples of u around q * u + rest is taken: q where the rest is at most a half, the next where it is at least a half, and at a half the even one

pub taken : (q u rest : ℕ) (o : Ordering) → Cmp o (rest * 2) u → Taken q u rest (nearest q o)
taken q u rest Ordering.lt c = inl (refl, omega arith, λ (e : rest * 2 ≡ u). absurd (let z : ⊥ = omega arith in z))
taken q u rest Ordering.gt c = inr (refl, omega arith, λ (e : rest * 2 ≡ u). absurd (let z : ⊥ = omega arith in z))
taken q u rest Ordering.eq c = elim (eq-zero-or-pos (q % 2)) [
  | inl z ↦ inl (omega arith, omega arith, λ _. z)
  | inr z ↦ inr (omega arith, omega arith, λ _. (let y : suc q % 2 ≡ 0 = omega arith in y))
]

-- ---- n = A + rest lies between the neighbours A and A + u, and Z does not
module _ (A u rest n Z : ℕ) (is : A + rest ≡ n) (under : rest < u) (side : (Z ≤ A) ⊎ (A + u ≤ Z)) where
  down_near : rest * 2 ≤ u → apart n A ≤ apart n Z
  down_near h = elim side [ inl l ↦ omega arith | inr l ↦ omega arith ]

  up_near : u ≤ rest * 2 → apart n (A + u) ≤ apart n Z
  up_near h = elim side [ inl l ↦ omega arith | inr l ↦ omega arith ]

  down_tie : rest * 2 ≤ u → apart n A ≡ apart n Z → (A ≢ Z) → (Z ≡ A + u) × (rest * 2 ≡ u)
  down_tie h e d = elim side [ inl l ↦ absurd (d (omega arith)) | inr l ↦ (omega arith, omega arith) ]

  up_tie : u ≤ rest * 2 → apart n (A + u) ≡ apart n Z → (A + u ≢ Z) → (Z ≡ A) × (rest * 2 ≡ u)
  up_tie h e d = elim side [ inl l ↦ (omega arith, omega arith) | inr l ↦ absurd (d (omega arith)) ]

-- ---- what `round` makes of num / den: it drops k digits and keeps c, which is q or q + 1
module _ (f : Format) (num den : ℕ) (D : 0 < den) where
  abbrev n : ℕ
  n = num * 2 ^ low f

  abbrev k : ℕ
  k = drop (prec f) (num * 2 ^ low f) den

  abbrev u : ℕ
  u = den * 2 ^ drop (prec f) (num * 2 ^ low f) den

  abbrev q : ℕ
  q = num * 2 ^ low f / (den * 2 ^ drop (prec f) (num * 2 ^ low f) den)

  abbrev c : ℕ
  c = kept (prec f) (num * 2 ^ low f) den

  P : 0 < prec f
  P = two-le_pos (prec f) (two f)

  pub unit_pos : 0 < u
  unit_pos = mul-pos D (pow_pos k)

  -- q has at most prec digits, and all of them where some are dropped
  q_lt : q < 2 ^ prec f
  q_lt = subst (λ (x : ℕ). x < 2 ^ prec f) (div-div-eq-div-mul n den (2 ^ k)) (kept-lt (prec f) (n / den))

  q_ge : 0 < k → hid f ≤ q
  q_ge K =
      let p = P in
      let reached : 2 ^ (prec f - 1 + k) ≤ n / den = size_reaches (n / den) (prec f - 1 + k) (omega arith) in
      let a : hid f * 2 ^ k ≤ n / den = le_trans (le_of_eq (sym (pow-add 2 (prec f - 1) k))) reached in
      subst (λ (x : ℕ). hid f ≤ x) (div-div-eq-div-mul n den (2 ^ k)) ((le-div_iff_mul-le (pow_pos k)).1 a)

  pub kept_le : c ≤ 2 ^ prec f
  kept_le = le_trans (nearest-le q (compare (n % u * 2) u)) q_lt

  pub kept_ge : 0 < k → hid f ≤ c
  kept_ge K = le_trans (q_ge K) (nearest-ge q (compare (n % u * 2) u))

  -- z * 2 ^ k units, in the distance's terms
  in_u : (z : ℕ) → z * 2 ^ k * den ≡ z * u
  in_u z = mul_assoc z (2 ^ k) den ∙ ap (λ (x : ℕ). z * x) (mul_comm (2 ^ k) den)

  sides : (a j : ℕ) → a < 2 ^ prec f → (a * 2 ^ j * den ≤ q * u) ⊎ (q * u + u ≤ a * 2 ^ j * den)
  sides a j A = go (nat_lt (q * 2 ^ k) (a * 2 ^ j)) (ltb→lt (q * 2 ^ k) (a * 2 ^ j)) (nltb→le (q * 2 ^ k) (a * 2 ^ j))
    where
      next : (q + 1) * 2 ^ k * den ≡ q * u + u
      next = in_u (q + 1) ∙ add-mul q 1 u ∙ ap (λ (x : ℕ). q * u + x) (one-mul u)

      go : (b : Bool) → (T b → q * 2 ^ k < a * 2 ^ j) → (T (not b) → a * 2 ^ j ≤ q * 2 ^ k) → (a * 2 ^ j * den ≤ q * u) ⊎ (q * u + u ≤ a * 2 ^ j * den)
      go true h g = inr (le_trans (le_of_eq (sym next)) (mul-le-mul_right den (gap (prec f) k q a j P q_ge A (h tt))))
      go false h g = inl (le_trans (mul-le-mul_right den (g tt)) (le_of_eq (in_u q)))

  beside : (Y : ℕ) → Digits f Y → (Y * den ≤ q * u) ⊎ (q * u + u ≤ Y * den)
  beside Y d = subst (λ (y : ℕ). (y * den ≤ q * u) ⊎ (q * u + u ≤ y * den)) (sym d.is) (sides d.a d.j d.few)

  parts : q * u + n % u ≡ n
  parts = div-add-mod' n u

  rest_lt : n % u < u
  rest_lt = mod-lt n unit_pos

  choice : Taken q u (n % u) c
  choice = taken q u (n % u) (compare (n % u * 2) u) (cmp (n % u * 2) u)

  at_q : c ≡ q → c * 2 ^ k * den ≡ q * u
  at_q e = in_u c ∙ ap (λ (x : ℕ). x * u) e

  at_next : c ≡ suc q → c * 2 ^ k * den ≡ q * u + u
  at_next e = in_u c ∙ ap (λ (x : ℕ). x * u) e ∙ suc-mul q u

  near : (Y : ℕ) → Digits f Y → apart n (c * 2 ^ k * den) ≤ apart n (Y * den)
  near Y d = elim choice [
    | inl h ↦ subst (λ (x : ℕ). apart n x ≤ apart n (Y * den)) (sym (at_q h.0)) (down_near (q * u) u (n % u) n (Y * den) parts rest_lt (beside Y d) h.1)
    | inr h ↦ subst (λ (x : ℕ). apart n x ≤ apart n (Y * den)) (sym (at_next h.0)) (up_near (q * u) u (n % u) n (Y * den) parts rest_lt (beside Y d) h.1)
  ]

  -- another value that is equally near is the other neighbour, and its last digit is odd
  record Tie (Y : ℕ) : Type 0 where
    even : c % 2 ≡ 0
    z : ℕ
    is : Y ≡ z * 2 ^ k
    odd : z % 2 ≡ 1
    le : z ≤ 2 ^ prec f
    ge : 0 < k → hid f ≤ z

  units_of : (Y z : ℕ) → Y * den ≡ z * u → Y ≡ z * 2 ^ k
  units_of Y z e = eq_of_mul-eq-mul_right den D Y (z * 2 ^ k) (e ∙ sym (in_u z))

  tied : (Y : ℕ) → Digits f Y → apart n (c * 2 ^ k * den) ≡ apart n (Y * den) → (c * 2 ^ k ≢ Y) → Tie Y
  tied Y d e other = elim choice [ inl h ↦ at_low h | inr h ↦ at_high h ]
    where
      differ : c * 2 ^ k * den ≡ Y * den → ⊥
      differ w = other (eq_of_mul-eq-mul_right den D (c * 2 ^ k) Y w)

      at_low : (c ≡ q) × (n % u * 2 ≤ u) × (n % u * 2 ≡ u → q % 2 ≡ 0) → Tie Y
      at_low h =
          let b = at_q h.0 in
          let level = ap (λ (x : ℕ). apart n x) (sym b) ∙ e in
          let t = down_tie (q * u) u (n % u) n (Y * den) parts rest_lt (beside Y d) h.1 level (λ (w : q * u ≡ Y * den). differ (b ∙ w)) in
          let v : q % 2 ≡ 0 = h.2 t.1 in
          record {
            even = ap (λ (x : ℕ). x % 2) h.0 ∙ v;
            z = suc q;
            is = units_of Y (suc q) (t.0 ∙ sym (suc-mul q u));
            odd = omega arith;
            le = q_lt;
            ge = λ (K : 0 < k). (let g : hid f ≤ q = q_ge K in let w : hid f ≤ suc q = omega arith in w);
          }

      at_high : (c ≡ suc q) × (u ≤ n % u * 2) × (n % u * 2 ≡ u → suc q % 2 ≡ 0) → Tie Y
      at_high h =
          let b = at_next h.0 in
          let level = ap (λ (x : ℕ). apart n x) (sym b) ∙ e in
          let t = up_tie (q * u) u (n % u) n (Y * den) parts rest_lt (beside Y d) h.1 level (λ (w : q * u + u ≡ Y * den). differ (b ∙ w)) in
          let v : suc q % 2 ≡ 0 = h.2 t.1 in
          record {
            even = ap (λ (x : ℕ). x % 2) h.0 ∙ v;
            z = q;
            is = units_of Y q t.0;
            odd = omega arith;
            le = (let l = q_lt in omega arith);
            ge = q_ge;
          }

  -- ---- the statement's middle of R and Y units, over den: the exact result is on R's side of it where it is nearer to R
  abbrev beyond : ℕ → ℕ → Ordering
  beyond R Y = at_middle f (fraction num den) R Y

  twice_n : num * (2 * 2 ^ low f) ≡ 2 * (num * 2 ^ low f)
  twice_n = mul_left_comm num 2 (2 ^ low f)

  module _ (R Y : ℕ) where
    says : Cmp (beyond R Y) (2 * n) (R * den + Y * den)
    says = rw (twice_n, add-mul R Y den) (cmp (2 * n) (R * den + Y * den))

    not_past : apart n (R * den) ≤ apart n (Y * den) → R < Y → beyond R Y ≢ Ordering.gt
    not_past h l e = let b = mul-lt-mul_of_pos_right l D in let g = rw e at says in omega arith

    not_short : apart n (R * den) ≤ apart n (Y * den) → Y < R → beyond R Y ≢ Ordering.lt
    not_short h l e = let b = mul-lt-mul_of_pos_right l D in let g = rw e at says in omega arith

    at_middle_lem : beyond R Y ≡ Ordering.eq → apart n (R * den) ≡ apart n (Y * den)
    at_middle_lem e = let g = rw e at says in omega arith

-- ---- the lowest bit of a pattern is its significand's
parity : (f : Format) (s : Bool) (k q : ℕ) → pattern f s k q % 2 ≡ q % 2
parity f s k q = go s
  where
    twice : hid f ≡ 2 * 2 ^ (prec f - 1 - 1)
    twice = double (prec f - 1) (let p = two f in let z : 0 < prec f - 1 = omega arith in z)

    exponent : k * hid f ≡ 2 * (2 ^ (prec f - 1 - 1) * k)
    exponent = mul_comm k (hid f) ∙ ap (λ (x : ℕ). x * k) twice ∙ mul_assoc 2 (2 ^ (prec f - 1 - 1)) k

    sign : top f ≡ 2 * (2 ^ (prec f - 1 - 1) * suc (ones f))
    sign = ap (λ (x : ℕ). x * suc (ones f)) twice ∙ mul_assoc 2 (2 ^ (prec f - 1 - 1)) (suc (ones f))

    go : (s : Bool) → pattern f s k q % 2 ≡ q % 2
    go true = let e = exponent in let t = sign in omega arith
    go false = let e = exponent in omega arith

-- ---- the theorems

finite_under : (f : Format) (s : Bool) (q k : ℕ) → T (finite (units f s q k)) → q * 2 ^ k < overflow f
unfolding units
finite_under f s q k = go (nat_lt (q * 2 ^ k) (overflow f)) (ltb→lt (q * 2 ^ k) (overflow f))
  where
    go : (b : Bool) → (T b → q * 2 ^ k < overflow f) → T (finite (cond b (odd (suc (prec f)) s q k (low f)) (inf s))) → q * 2 ^ k < overflow f
    go true h t = h tt
    go false h t = absurd t

module _ (f : Format) (s : Bool) (num den : ℕ) (D : 0 < den) (F : T (finite (round f s num den))) where
  abbrev r : Float
  r = round f s num den

  abbrev R : ℕ
  R = kept (prec f) (num * 2 ^ low f) den * 2 ^ drop (prec f) (num * 2 ^ low f) den

  size_is : HasValue r s R (2 ^ low f)
  size_is =
      let q = kept (prec f) (num * 2 ^ low f) den in
      let k = drop (prec f) (num * 2 ^ low f) den in
      subst (λ (v : Float). HasValue v s (q * 2 ^ k) (2 ^ low f)) (sym (round_is f s num den))
      (units_val f s q k (finite_under f s q k (subst (λ (v : Float). T (finite v)) (round_is f s num den) F)))

  last_digit : to_bits f r % 2 ≡ kept (prec f) (num * 2 ^ low f) den % 2
  last_digit =
      let q = kept (prec f) (num * 2 ^ low f) den in
      let k = drop (prec f) (num * 2 ^ low f) den in
      ap (λ (x : ℕ). x % 2) (bits_of f r s q k (kept_le f num den D) (kept_ge f num den D) size_is) ∙ parity f s k q

  held : Value f s r R
  held = (round-fits f s num den, size_is)

  abbrev E : Size
  E = fraction num den

  beats : (y : Float) (Y : ℕ) → Value f s y Y → apart (num * 2 ^ low f) (R * den) ≤ apart (num * 2 ^ low f) (Y * den)
  beats y Y v = near f num den D Y (digits_of f y s Y v.0 v.1)

  tied_with : (y : Float) (Y : ℕ) → Value f s y Y → (R ≢ Y) → at_middle f E R Y ≡ Ordering.eq → Tie f num den D Y
  tied_with y Y v other e = tied f num den D Y (digits_of f y s Y v.0 v.1) (at_middle_lem f num den D R Y e) other

  pub round_nearest : TiesToEven f s E r
  round_nearest = record {
    R = R;
    value = held;
    larger = λ y Y v. not_past f num den D R Y (beats y Y v);
    smaller = λ y Y v. not_short f num den D R Y (beats y Y v);
    tie = λ y Y v other e. last_digit ∙ (tied_with y Y v other e).even;
  }

  -- any value that is as near as all others, and even at a tie, is that one
  pub round_only : (v : Float) → TiesToEven f s E v → v ≡ r
  round_only v g = go (compare R g.R) (cmp R g.R)
    where
      same_middle : at_middle f E g.R R ≡ at_middle f E R g.R
      same_middle = ap (λ (x : ℕ). E x (2 * 2 ^ low f)) (add_comm g.R R)

      -- two that differ and are both nearest are equally near: both last digits are even, and one is odd
      level : (R < g.R) ⊎ (g.R < R) → (o : Ordering) → at_middle f E R g.R ≡ o → at_middle f E R g.R ≡ Ordering.eq
      level side Ordering.eq e = e
      level (inl l) Ordering.lt e = absurd (g.smaller r R held l (same_middle ∙ e))
      level (inr l) Ordering.lt e = absurd (not_short f num den D R g.R (beats v g.R g.value) l e)
      level (inl l) Ordering.gt e = absurd (not_past f num den D R g.R (beats v g.R g.value) l e)
      level (inr l) Ordering.gt e = absurd (g.larger r R held l (same_middle ∙ e))

      clash : (R < g.R) ⊎ (g.R < R) → (R ≢ g.R) → ⊥
      clash side other =
          let k = drop (prec f) (num * 2 ^ low f) den in
          let e = level side (at_middle f E R g.R) refl in
          let t = tied_with v g.R g.value other e in
          let is : HasValue v s (t.z * 2 ^ k) (2 ^ low f) = subst (λ (x : ℕ). HasValue v s x (2 ^ low f)) t.is g.value.1 in
          let bits : to_bits f v ≡ pattern f s k t.z = bits_of f v s t.z k t.le t.ge is in
          let odd : to_bits f v % 2 ≡ 1 = ap (λ (x : ℕ). x % 2) bits ∙ parity f s k t.z ∙ t.odd in
          let even : to_bits f v % 2 ≡ 0 = g.tie r R held (λ (e : g.R ≡ R). other (sym e)) (same_middle ∙ e) in
          omega arith

      go : (o : Ordering) → Cmp o R g.R → v ≡ r
      go Ordering.eq e = same_value f v r s g.R g.value.0 held.0 g.value.1 (subst (λ (x : ℕ). HasValue r s x (2 ^ low f)) e size_is)
      go Ordering.lt l = absurd (clash (inl l) (λ (e : R ≡ g.R). let z : ⊥ = omega arith in z))
      go Ordering.gt l = absurd (clash (inr l) (λ (e : R ≡ g.R). let z : ⊥ = omega arith in z))
