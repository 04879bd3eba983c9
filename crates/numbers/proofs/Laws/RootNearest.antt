-- The root of a value x above zero: `rooted f x` is the value of the format f that is nearest to √x (`rooted_nearest`), and the only one (`rooted_only`).
-- There is no tie: every other value is strictly further from √x (`rooted_no_tie`). `Ieee754` has the statement, `ByTheStandard` the cases that are left.
-- r is nearer to √x than a larger y where √x lies below their middle (r + y) / 2, and than a smaller y where it lies above. In units of the format's
-- smallest value 2 ^ -low, with x = n / 4 ^ low, r = R units and y = Y units, both sides squared, that compares 4 * n with (R + Y) ^ 2. Assumes nothing.
use Rattle.std.specs.Prelude.{◌≡◌, ℕ, suc, ◌+◌, ◌-◌, ◌*◌, ◌/◌, ◌%◌, ◌^◌, ◌<◌, ◌≤◌, Bool, true, false, not, T, ◌⊎◌, ℤ, ◌≢◌, nat_lt, refl, Float}
use Rattle.std.proofs.Common.{sym, ap, ◌∙◌, subst, inl, inr, le_trans, le_of_eq, le_of_suc-le-suc, lt_of_lt_of_le, lt_of_le_of_lt, lt_of_not-le, not-le_of_lt, eq-zero-or-pos, one-mul, mul-one, mul-pos, mul_comm, mul_assoc, mul_right_comm, mul_left_comm, add_comm, add-mul, mul-le-mul_right, le-mul_of_pos_right, mul-lt-mul_of_pos_right, lt_of_mul-lt-mul_right, mul-div_cancel, div-mul-le_self, arith, ltb→lt, nltb→le, pow-add, pow_pos, pow_mono}
use Prim.Native.Nat.{compare, Ordering}
use Rattle.std.proofs.Math.Nat.{mul-mul-mul_comm, eq_of_mul-eq-mul_right, lt-div-mul-add}
use Rattle.std.proofs.Math.Pow.{pow-lt}
use Rattle.std.specs.Float.{fin, Format}
use Rattle.std.specs.Float.Ieee.{prec, emax, low, up, down, size, nearest, fits}
use Rattle.std.specs.Float.Ieee.Digits.{size-le}
use Rattle.std.specs.Float.Ieee.Fits.{two, reach, two-le_pos, down_pos}
use Rattle.std.specs.Float.Ieee.Exact.{HasValue, units_val}
use Rattle.numbers.specs.Arithmetic.{whole, root_rounded, scaled, rooted}
use Rattle.numbers.specs.Ieee754.{Size, root_of, Value, at_middle, TiesToEven}
use Rattle.numbers.proofs.Laws.Binary.{double, shift_twice, cmp, compare_lt, compare_gt}
use Rattle.numbers.specs.Laws.Binary.{Cmp}
use Rattle.numbers.proofs.Laws.Squares.{square_sum, sum_square, square_mono, square_lt}
use Rattle.numbers.proofs.Laws.RootWhole.{whole_is, whole_lt, root_rounded_is}
use Rattle.numbers.specs.Laws.RootWhole.{dropped, middle, kept}
use Rattle.numbers.proofs.Laws.RootOrder.{quotient_ge, kept_le}
use Rattle.numbers.proofs.Laws.Spacing.{gap, held, place, place_of, digits_of}
use Rattle.numbers.specs.Laws.Spacing.{Held, Digits}
use Rattle.numbers.proofs.Laws.Patterns.{same_value, units_fits}

-- R is strictly nearer to √n than Y is, or it is Y: |R - √n| < |Y - √n|
abbrev Nearer : ℕ → ℕ → ℕ → Type 0
Nearer n R Y = (R < Y → 4 * n < (R + Y) * (R + Y)) × (Y < R → (R + Y) * (R + Y) < 4 * n)

-- ---- l ≤ √n < h, the middle of the two is m / 2, and y does not lie between them
module _ (n l h m y : ℕ) (mid : m ≡ l + h) (low-square : l * l ≤ n) (high-square : n < h * h) (step : l < y → h ≤ y) where
  take_low : 4 * n < m * m → Nearer n l y
  take_low s = (
    λ (g : l < y). let z : h ≤ y = step g in lt_of_lt_of_le s (square_mono (let w : m ≤ l + y = omega arith in w)),
    λ (g : y < l). let w = square_lt (l + y) (l + l) (omega arith) in let z = sum_square l in (let i : (l + y) * (l + y) < 4 * n = omega arith in i),
  )

  take_high : m * m < 4 * n → Nearer n h y
  take_high s = (
    λ (g : h < y). let w = square_lt (h + h) (h + y) (omega arith) in let z = sum_square h in (let i : 4 * n < (h + y) * (h + y) = omega arith in i),
    λ (g : y < h).
        let z : y ≤ l = le_of_suc-le-suc (lt_of_not-le (λ (b : suc l ≤ y). not-le_of_lt g (step b))) in
        lt_of_le_of_lt (square_mono (let w : h + y ≤ m = omega arith in w)) s,
  )

-- ---- No tie. The middle, without its zeros, is odd and has more digits than a value of the format: its square is no such value times a power of two.

-- an odd number times a power of two
odd_part : (o m a b : ℕ) → o % 2 ≡ 1 → o * 2 ^ b ≡ m * 2 ^ a → o ≤ m
odd_part o m a b O e = go (nat_lt b a) (ltb→lt b a) (nltb→le b a)
  where
    go : (c : Bool) → (T c → b < a) → (T (not c) → a ≤ b) → o ≤ m
    go true l g =
        let h = l tt in
        let i = a - b - 1 in
        let z : a ≡ i + 1 + b = omega arith in
        let s : m * 2 ^ a ≡ m * 2 ^ i * 2 ^ 1 * 2 ^ b = ap (λ (y : ℕ). m * 2 ^ y) z ∙ sym (shift_twice m (i + 1) b) ∙ ap (λ (y : ℕ). y * 2 ^ b) (sym (shift_twice m i 1)) in
        let x : o ≡ m * 2 ^ i * 2 = eq_of_mul-eq-mul_right (2 ^ b) (pow_pos b) o (m * 2 ^ i * 2) (e ∙ s) in
        absurd (let z : ⊥ = omega arith in z)
    go false l g =
        let h = g tt in
        let s : o * 2 ^ (b - a) * 2 ^ a ≡ o * 2 ^ b = shift_twice o (b - a) a ∙ ap (λ (y : ℕ). o * 2 ^ y) (let z : b - a + a ≡ b = omega arith in z) in
        let x : o * 2 ^ (b - a) ≡ m = eq_of_mul-eq-mul_right (2 ^ a) (pow_pos a) (o * 2 ^ (b - a)) m (s ∙ e) in
        le_trans (le-mul_of_pos_right o (pow_pos (b - a))) (le_of_eq x)

odd_square : (q : ℕ) → (2 * q + 1) * (2 * q + 1) % 2 ≡ 1
odd_square q =
    let sq = square_sum (2 * q) 1 in
    let tw : 2 * q * (2 * q) ≡ 2 * (q * (2 * q)) = mul_assoc 2 q (2 * q) in
    omega arith

no_tie : (p k q m a : ℕ) → 0 < p → (0 < k → 2 ^ (p - 1) ≤ q) → m < 2 ^ p → 4 * (m * 2 ^ a) ≢ middle q k * middle q k
no_tie p k q m a P full M e = go (eq-zero-or-pos k) (2 * q + 1) refl (odd_square q)
  where
    square_of : (o : ℕ) → o * 2 ^ k * (o * 2 ^ k) ≡ o * o * 2 ^ (k + k)
    square_of o = mul-mul-mul_comm o (2 ^ k) o (2 ^ k) ∙ ap (λ (y : ℕ). o * o * y) (sym (pow-add 2 k k))

    four : 4 * (m * 2 ^ a) ≡ m * 2 ^ (a + 2)
    four = mul_comm 4 (m * 2 ^ a) ∙ shift_twice m a 2

    go : (k ≡ 0) ⊎ (0 < k) → (o : ℕ) → o ≡ 2 * q + 1 → o * o % 2 ≢ 1
    go (inl z) o oe O =
        let s : o * 2 ^ k * (o * 2 ^ k) ≡ o * o = square_of o ∙ ap (λ (y : ℕ). o * o * 2 ^ (y + y)) z ∙ mul-one (o * o) in
        let g : 4 * (m * 2 ^ a) ≡ o * o = e ∙ ap (λ (y : ℕ). y * 2 ^ k * (y * 2 ^ k)) (sym oe) ∙ s in
        omega arith
    go (inr K) o oe O =
        let l : o * o ≤ m = odd_part (o * o) m (a + 2) (k + k) O (sym (square_of o) ∙ ap (λ (y : ℕ). y * 2 ^ k * (y * 2 ^ k)) oe ∙ sym e ∙ four) in
        let d : 2 ^ p ≡ 2 * 2 ^ (p - 1) = double p P in
        let w : 2 ^ p ≤ o = (let g = full K in omega arith) in
        let v : o ≤ o * o = le-mul_of_pos_right o (let z : 0 < o = omega arith in z) in
        omega arith

-- ---- what `root_rounded` makes of n, in units: one of the two neighbours around √n, by which side of their middle √n is on
abbrev result : Format → ℕ → ℕ
result f n = kept n (dropped f n) * 2 ^ dropped f n

mid_is : (q u : ℕ) → (2 * q + 1) * u ≡ q * u + (q + 1) * u
mid_is q u = ap (λ (t : ℕ). t * u) (let z : 2 * q + 1 ≡ q + (q + 1) = omega arith in z) ∙ add-mul q (q + 1) u

low_is : (n u : ℕ) → whole n / u * u * (whole n / u * u) ≤ n
low_is n u = le_trans (square_mono (div-mul-le_self (whole n) u)) (whole_is n).0

high_is : (n u : ℕ) → 0 < u → n < (whole n / u + 1) * u * ((whole n / u + 1) * u)
high_is n u U =
    let q = whole n / u in
    let h : whole n < q * u + u = lt-div-mul-add U in
    let e : (q + 1) * u ≡ q * u + 1 * u = add-mul q 1 u in
    let o : 1 * u ≡ u = one-mul u in
    lt_of_lt_of_le (whole_is n).1 (square_mono (let z : whole n + 1 ≤ (q + 1) * u = omega arith in z))

-- n is no tie, being d * 2 ^ i with a d of at most prec digits; y is a * 2 ^ j
module _ (f : Format) (n d i : ℕ) (D : d < 2 ^ prec f) (N : n ≡ d * 2 ^ i) (a j : ℕ) (A : a < 2 ^ prec f) where
  P : 0 < prec f
  P = two-le_pos (prec f) (two f)

  chosen : (k q : ℕ) (o : Ordering) → (0 < k → 2 ^ (prec f - 1) ≤ q) → q * 2 ^ k * (q * 2 ^ k) ≤ n → n < (q + 1) * 2 ^ k * ((q + 1) * 2 ^ k)
      → Cmp o (4 * n) (middle q k * middle q k) → Nearer n (nearest q o * 2 ^ k) (a * 2 ^ j)
  chosen k q Ordering.lt full lo hi c = take_low n (q * 2 ^ k) ((q + 1) * 2 ^ k) (middle q k) (a * 2 ^ j) (mid_is q (2 ^ k)) lo hi (gap (prec f) k q a j P full A) c
  chosen k q Ordering.gt full lo hi c =
      subst (λ (t : ℕ). Nearer n (t * 2 ^ k) (a * 2 ^ j)) (let z : q + 1 ≡ suc q = omega arith in z)
      (take_high n (q * 2 ^ k) ((q + 1) * 2 ^ k) (middle q k) (a * 2 ^ j) (mid_is q (2 ^ k)) lo hi (gap (prec f) k q a j P full A) c)
  chosen k q Ordering.eq full lo hi c = absurd (no_tie (prec f) k q d i P full D (ap (λ (y : ℕ). 4 * y) (sym N) ∙ c))

  nearer : Nearer n (result f n) (a * 2 ^ j)
  nearer =
      let k = dropped f n in
      let q = whole n / 2 ^ k in
      chosen k q (compare (4 * n) (middle q k * middle q k)) (quotient_ge f n) (low_is n (2 ^ k)) (high_is n (2 ^ k) (pow_pos k)) (cmp (4 * n) (middle q k * middle q k))

-- it is no larger than the power of two above the root
result_le : (f : Format) (n t : ℕ) → prec f ≤ t → n < 2 ^ t * 2 ^ t → result f n ≤ 2 ^ t
result_le f n t L h =
    let k = dropped f n in
    let s : size (whole n) ≤ t = size-le (whole n) t (whole_lt n (2 ^ t) h) in
    le_trans (mul-le-mul_right (2 ^ k) (kept_le f n)) (le_trans (le_of_eq (sym (pow-add 2 (prec f) k))) (pow_mono (let z : prec f + k ≤ t = omega arith in z)))

-- ---- x * 4 ^ low is a whole number, m * 2 ^ i for the significand m of x
module _ (f : Format) (m : ℕ) (e : ℤ) (H : Held f m e) where
  abbrev l : ℕ
  l = 2 ^ low f

  abbrev raised : ℕ
  raised = (place (low f) e H.low_end).0 + low f

  spread : m * up e * (l * l) ≡ m * 2 ^ raised * down e
  spread =
      let j = (place (low f) e H.low_end).0 in
      sym (mul_assoc (m * up e) l l)
      ∙ ap (λ (y : ℕ). y * l) (place_of f m e j (place (low f) e H.low_end).1)
      ∙ mul_right_comm (m * 2 ^ j) (down e) l
      ∙ ap (λ (y : ℕ). y * down e) (shift_twice m j (low f))

  scaled_is : scaled f m e ≡ m * 2 ^ raised
  scaled_is = ap (λ (y : ℕ). y / down e) spread ∙ mul-div_cancel (m * 2 ^ raised) (down_pos e)

  exactly : m * up e * (l * l) ≡ scaled f m e * down e
  exactly = spread ∙ ap (λ (y : ℕ). y * down e) (sym scaled_is)

  -- the root is far below the infinity
  room : (e l : ℕ) → 1 ≤ e → suc e + (l + l) ≤ l + e + (l + e)
  room e l h = omega arith

  far : (e p : ℕ) → 1 ≤ e → 2 ≤ p → p ≤ e + p - 2 + e
  far e p h k = omega arith

  one : 1 ≤ emax f
  one = let a = two f in let b = reach f in omega arith

  top_square : 2 ^ suc (emax f) * (l * l) ≤ 2 ^ (low f + emax f) * 2 ^ (low f + emax f)
  top_square =
      le_trans (le_of_eq (ap (λ (y : ℕ). 2 ^ suc (emax f) * y) (sym (pow-add 2 (low f) (low f))) ∙ sym (pow-add 2 (suc (emax f)) (low f + low f))))
      (le_trans (pow_mono (room (emax f) (low f) one)) (le_of_eq (pow-add 2 (low f + emax f) (low f + emax f))))

  in_range : scaled f m e < 2 ^ (low f + emax f) * 2 ^ (low f + emax f)
  in_range =
      lt_of_mul-lt-mul_right (down e)
      (lt_of_le_of_lt (le_of_eq (sym exactly))
      (lt_of_lt_of_le (mul-lt-mul_of_pos_right H.high_end (mul-pos (pow_pos (low f)) (pow_pos (low f))))
      (le_trans (le_of_eq (mul_right_comm (2 ^ suc (emax f)) (down e) (l * l))) (mul-le-mul_right (down e) top_square))))

  root_value : HasValue (root_rounded f (scaled f m e)) false (result f (scaled f m e)) (2 ^ low f)
  root_value =
      let n = scaled f m e in
      let t = low f + emax f in
      let h : result f n ≤ 2 ^ t = result_le f n t (far (emax f) (prec f) one (two f)) in_range in
      subst (λ (r : Float). HasValue r false (result f n) (2 ^ low f)) (sym (root_rounded_is f n))
      (units_val f false (kept n (dropped f n)) (dropped f n) (lt_of_le_of_lt h (pow-lt (let z : low f + emax f < low f + suc (emax f) = omega arith in z))))

  near : (Y : ℕ) → Digits f Y → Nearer (scaled f m e) (result f (scaled f m e)) Y
  near Y d =
      let n = scaled f m e in
      subst (λ (t : ℕ). Nearer n (result f n) t) (sym d.is) (nearer f n m raised H.digits scaled_is d.a d.j d.few)

  -- ---- in the standard's terms: √x against the middle of R and Y units is 4 * n against (R + Y) ^ 2, both times `down e`
  abbrev r : Float
  r = root_rounded f (scaled f m e)

  abbrev R : ℕ
  R = result f (scaled f m e)

  abbrev E : Size
  E = root_of (m * up e) (down e)

  four_n : m * up e * (2 * l * (2 * l)) ≡ 4 * scaled f m e * down e
  four_n =
      ap (λ (y : ℕ). m * up e * y) (mul-mul-mul_comm 2 l 2 l)
      ∙ mul_left_comm (m * up e) 4 (l * l)
      ∙ ap (λ (y : ℕ). 4 * y) exactly
      ∙ sym (mul_assoc 4 (scaled f m e) (down e))

  held_root : Value f false r R
  held_root =
      let n = scaled f m e in
      (subst (λ (r : Float). T (fits f r)) (sym (root_rounded_is f n)) (units_fits f false (kept n (dropped f n)) (dropped f n) (kept_le f n)), root_value)

  module _ (y : Float) (Y : ℕ) (v : Value f false y Y) where
    apart : Nearer (scaled f m e) R Y
    apart = near Y (digits_of f y false Y v.0 v.1)

    if_larger : R < Y → at_middle f E R Y ≡ Ordering.lt
    if_larger h = compare_lt _ _ (rw four_n (mul-lt-mul_of_pos_right (apart.0 h) (down_pos e)))

    if_smaller : Y < R → at_middle f E R Y ≡ Ordering.gt
    if_smaller h = compare_gt _ _ (rw four_n (mul-lt-mul_of_pos_right (apart.1 h) (down_pos e)))

    never_level : (R ≢ Y) → at_middle f E R Y ≢ Ordering.eq
    never_level other h = go (compare R Y) (cmp R Y)
      where
        go : (o : Ordering) → Cmp o R Y → ⊥
        go Ordering.lt l = let a = if_larger l in let z : ◌≡◌ {A = ℕ} 0 1 = cc in omega arith
        go Ordering.gt l = let a = if_smaller l in let z : ◌≡◌ {A = ℕ} 0 1 = cc in omega arith
        go Ordering.eq d = other d

  nearest_at : TiesToEven f false E r
  nearest_at = record {
    R = R;
    value = held_root;
    larger = λ y Y v l h. (let a = if_larger y Y v l in let z : ◌≡◌ {A = ℕ} 0 1 = cc in omega arith);
    smaller = λ y Y v l h. (let a = if_smaller y Y v l in let z : ◌≡◌ {A = ℕ} 0 1 = cc in omega arith);
    tie = λ y Y v other h. absurd (never_level y Y v other h);
  }

  only_at : (v : Float) → TiesToEven f false E v → v ≡ r
  only_at v g = go (compare R g.R) (cmp R g.R)
    where
      same_middle : at_middle f E g.R R ≡ at_middle f E R g.R
      same_middle = ap (λ (x : ℕ). E x (2 * 2 ^ low f)) (add_comm g.R R)

      go : (o : Ordering) → Cmp o R g.R → v ≡ r
      go Ordering.eq d =
          same_value f v r false g.R g.value.0 held_root.0 g.value.1 (subst (λ (x : ℕ). HasValue r false x (2 ^ low f)) d root_value)
      go Ordering.lt l = absurd (g.smaller r R held_root l (same_middle ∙ if_larger v g.R g.value l))
      go Ordering.gt l = absurd (g.larger r R held_root l (same_middle ∙ if_smaller v g.R g.value l))

-- ---- the theorems, for a value x = m * 2 ^ e of the format that is above zero

module _ (f : Format) (m : ℕ) (e : ℤ) (F : T (fits f (fin false (suc m) e))) where
  abbrev x : Float
  x = fin false (suc m) e

  abbrev precisely : Size
  precisely = root_of (suc m * up e) (down e)

  pub rooted_nearest : TiesToEven f false precisely (rooted f x)
  unfolding rooted
  rooted_nearest = nearest_at f (suc m) e (held f false m e F)

  -- two values that are nearest to one root are the same
  pub rooted_only : (r : Float) → TiesToEven f false precisely r → r ≡ rooted f x
  unfolding rooted
  rooted_only r g = only_at f (suc m) e (held f false m e F) r g

  -- every other value is strictly further from √x
  pub rooted_no_tie : (y : Float) (Y : ℕ) → Value f false y Y → (rooted_nearest.R ≢ Y) → at_middle f precisely rooted_nearest.R Y ≢ Ordering.eq
  unfolding rooted rooted_nearest nearest_at
  rooted_no_tie y Y v other h = never_level f (suc m) e (held f false m e F) y Y v other h
