-- What a sum of squares can be: NaN, +infinity or a value with a plus sign (`Square`), and NaN just where a term is. Of such values that are no NaN, one
-- is less or the other is at most it; equal ones are one. By cases on the values. Assumes nothing.
use Rattle.std.specs.Prelude.{◌≡◌, ℕ, ◌+◌, ◌-◌, ◌*◌, ◌/◌, ◌^◌, ◌≤◌, Bool, true, false, cond, not, ◌&&◌, ◌||◌, T, ◌⊎◌, ℤ, pos, ◌==◌, from_bits, nat_lt, Float}
use Rattle.std.proofs.Math.Path.{refl, ap}
use Rattle.std.proofs.Common.{sym, ◌∙◌, subst, inl, inr, true≢false, mul_right_comm, le_of_lt, le_of_eq, arith, ltb→lt}
use Rattle.std.specs.Bool.{beq}
use Rattle.std.proofs.Math.Nat.{zero-mul}
use borrow.Author.Tests.{ltb-false, le-ltb}
use Rattle.std.proofs.Math.Dec.{eqb→eq}
use Rattle.std.specs.Float.Ieee.{nan, prec, low, hid, top, up, down, size, unlike, round, sum, neg, add, sub, mul, lt, eq, le, is_nan, fits, to_bits}
use Rattle.std.specs.Float.{inf, fin, Format}
use Rattle.std.specs.Float.Ieee.Bits.{of_bits-to_bits}
use Rattle.std.specs.Float.Ieee.Fits.{round_is, down_pos, and_l}
use Rattle.std.specs.Float.Ieee.Nearest.{div_same}
use Rattle.std.specs.Float.Ieee.Order.{drop, kept, le_of_values}
use Rattle.std.specs.Float.Ieee.Positive.{through}
use Rattle.std.specs.Float.Ieee.Scale.{finite}
use Rattle.numbers.proofs.Laws.RootOrder.{units_plain}
use Rattle.numbers.specs.Laws.RootOrder.{Plain, infinite, finite as whole}
use Rattle.numbers.proofs.Laws.Symmetry.{round_neg, is_nan_neg}
use Rattle.numbers.specs.Laws.SumOfSquares.{Square, none, far, some}

-- ---- what it can be

round_plain : (f : Format) (n d : ℕ) → Plain (round f false n d)
round_plain f n d =
    subst (λ (x : Float). Plain x) (sym (round_is f false n d)) (units_plain f (kept (prec f) (n * 2 ^ low f) d) (drop (prec f) (n * 2 ^ low f) d))

of_plain : (x : Float) → Plain x → Square x
of_plain (inf false) infinite = far
of_plain (fin false m e) whole = some
of_plain nan x'' = elim x'' [ ]
of_plain (inf true) x5 = elim x5 [ ]
of_plain (fin true m e) x6 = elim x6 [ ]

round_square : (f : Format) (n d : ℕ) → Square (round f false n d)
round_square f n d = of_plain (round f false n d) (round_plain f n d)

pub mul_square : (f : Format) (x : Float) → Square (mul f x x)
unfolding mul
mul_square f nan = none
mul_square f (inf true) = far
mul_square f (inf false) = far
mul_square f (fin true m e) = round_square f (m * up e * (m * up e)) (down e * down e)
mul_square f (fin false m e) = round_square f (m * up e * (m * up e)) (down e * down e)

pub add_square : (f : Format) (x y : Float) → Square x → Square y → Square (add f x y)
unfolding add sum
add_square f nan y none q = none
add_square f (inf false) nan far none = none
add_square f (inf false) (inf false) far far = far
add_square f (inf false) (fin false n d) far some = far
add_square f (fin false m e) nan some none = none
add_square f (fin false m e) (inf false) some far = far
add_square f (fin false m e) (fin false n d) some some = round_square f (m * up e * down d + n * up d * down e) (down e * down d)
add_square f (inf false) (inf true) _ q = elim q [ ]
add_square f (inf false) (fin true n d) _ q = elim q [ ]
add_square f (inf true) y x6 q = elim x6 [ ]
add_square f (fin false m e) (inf true) _ q = elim q [ ]
add_square f (fin false m e) (fin true n d) _ q = elim q [ ]
add_square f (fin true m e) y x7 q = elim x7 [ ]

-- ---- where it is NaN: just where a term is, and a term just where its root is

plain_number : (x : Float) → Plain x → is_nan x ≡ false
unfolding is_nan
plain_number (inf false) infinite = refl
plain_number (fin false m e) whole = refl
plain_number nan x'' = elim x'' [ ]
plain_number (inf true) x5 = elim x5 [ ]
plain_number (fin true m e) x6 = elim x6 [ ]

round_number : (f : Format) (s : Bool) (n d : ℕ) → is_nan (round f s n d) ≡ false
round_number f s n d = go s (plain_number (round f false n d) (round_plain f n d))
  where
    go : (s : Bool) → is_nan (round f false n d) ≡ false → is_nan (round f s n d) ≡ false
    go false h = h
    go true h = ap is_nan (round_neg f false n d) ∙ is_nan_neg (round f false n d) ∙ h

sum_number : (f : Format) (s : Bool) (a : ℕ) (t : Bool) (b c : ℕ) → is_nan (sum f s a t b c) ≡ false
unfolding sum
sum_number f s a t b c = go (beq s t) (nat_lt a b)
  where
    go : (x y : Bool) → is_nan (cond x (round f s (a + b) c) (cond y (round f t (b - a) c) (round f (s && nat_lt b a) (a - b) c))) ≡ false
    go true y = round_number f s (a + b) c
    go false true = round_number f t (b - a) c
    go false false = round_number f (s && nat_lt b a) (a - b) c

pub is_nan_mul : (f : Format) (x : Float) → is_nan (mul f x x) ≡ is_nan x
unfolding mul is_nan
is_nan_mul f nan = refl
is_nan_mul f (inf s) = refl
is_nan_mul f (fin s m e) = round_number f (unlike s s) (m * up e * (m * up e)) (down e * down e)

pub is_nan_add : (f : Format) (x y : Float) → Square x → Square y → is_nan (add f x y) ≡ is_nan x || is_nan y
unfolding add is_nan
is_nan_add f nan y none q = refl
is_nan_add f (inf false) nan far none = refl
is_nan_add f (inf false) (inf false) far far = refl
is_nan_add f (inf false) (fin false n d) far some = refl
is_nan_add f (fin false m e) nan some none = refl
is_nan_add f (fin false m e) (inf false) some far = refl
is_nan_add f (fin false m e) (fin false n d) some some = sum_number f false (m * up e * down d) false (n * up d * down e) (down e * down d)
is_nan_add f (inf false) (inf true) _ q = elim q [ ]
is_nan_add f (inf false) (fin true n d) _ q = elim q [ ]
is_nan_add f (inf true) y x6 q = elim x6 [ ]
is_nan_add f (fin false m e) (inf true) _ q = elim q [ ]
is_nan_add f (fin false m e) (fin true n d) _ q = elim q [ ]
is_nan_add f (fin true m e) y x7 q = elim x7 [ ]

-- from a finite place
pub is_nan_sub : (f : Format) (x y : Float) → finite x ≡ true → is_nan (sub f x y) ≡ is_nan y
unfolding sub add neg is_nan
is_nan_sub f nan y h = absurd (true≢false (sym h))
is_nan_sub f (inf s) y h = absurd (true≢false (sym h))
is_nan_sub f (fin s m e) nan h = refl
is_nan_sub f (fin s m e) (inf t) h = refl
is_nan_sub f (fin s m e) (fin t n d) h = sum_number f s (m * up e * down d) (not t) (n * up d * down e) (down e * down d)

-- ---- its order

or_split : (a b : Bool) → T (a || b) → T a ⊎ T b
or_split true b t = inl tt
or_split false b t = inr t

pub le_split : (x y : Float) → T (le x y) → T (lt x y) ⊎ T (eq x y)
unfolding le
le_split x y t = or_split (lt x y) (eq x y) t

pub lt_le : (x y : Float) → lt x y ≡ true → T (le x y)
unfolding le
lt_le x y t = go (lt x y) (eq x y) t
  where
    go : (a b : Bool) → a ≡ true → T (a || b)
    go true b h = tt
    go false b h = absurd (true≢false (sym h))

crossed : (a b : ℕ) → T (nat_lt a b || (a == b && true)) → a ≤ b
crossed a b t = go (or_split (nat_lt a b) (a == b && true) t)
  where
    go : T (nat_lt a b) ⊎ T (a == b && true) → a ≤ b
    go (inl u) = le_of_lt (ltb→lt a b u)
    go (inr u) = le_of_eq (eqb→eq a b (and_l (a == b) true u))

pub not_below : (x y : Float) → Square x → Square y → is_nan x ≡ false → is_nan y ≡ false → lt x y ≡ false → T (le y x)
unfolding is_nan
not_below nan y none q p r t = absurd (true≢false p)
not_below (inf false) nan far none p r t = absurd (true≢false r)
not_below (inf false) (inf false) far far p r t = unfold le in tt
not_below (inf false) (fin false n d) far some p r t = unfold le in tt
not_below (fin false m e) nan some none p r t = absurd (true≢false r)
not_below (fin false m e) (inf false) some far p r t = unfold lt in absurd (true≢false t)
not_below (fin false m e) (fin false n d) some some p r t =
    let h : n * up d * down e ≤ m * up e * down d = unfold lt in ltb-false (m * up e * down d) (n * up d * down e) t in
    le_of_values (fin false n d) (fin false m e) (n * up d) (down d) (m * up e) (down e) (down_pos d) (down_pos e) (refl, refl) (refl, refl) h
not_below (inf false) (inf true) _ q p r t = elim q [ ]
not_below (inf false) (fin true n d) _ q p r t = elim q [ ]
not_below (inf true) y x9 q p r t = elim x9 [ ]
not_below (fin false m e) (inf true) _ q p r t = elim q [ ]
not_below (fin false m e) (fin true n d) _ q p r t = elim q [ ]
not_below (fin true m e) y x10 q p r t = elim x10 [ ]

pub le_not : (x y : Float) → Square x → Square y → T (le x y) → lt y x ≡ false
unfolding le lt
le_not nan y none q t = absurd t
le_not (inf false) nan far none t = absurd t
le_not (inf false) (inf false) far far t = refl
le_not (inf false) (fin false n d) far some t = absurd t
le_not (fin false m e) nan some none t = absurd t
le_not (fin false m e) (inf false) some far t = refl
le_not (fin false m e) (fin false n d) some some t = le-ltb (n * up d * down e) (m * up e * down d) (crossed (m * up e * down d) (n * up d * down e) t)
le_not (inf false) (inf true) _ q t = elim q [ ]
le_not (inf false) (fin true n d) _ q t = elim q [ ]
le_not (inf true) y x7 q t = elim x7 [ ]
le_not (fin false m e) (inf true) _ q t = elim q [ ]
le_not (fin false m e) (fin true n d) _ q t = elim q [ ]
le_not (fin true m e) y x8 q t = elim x8 [ ]

pub le_trans : (x y z : Float) → Square x → Square y → Square z → T (le x y) → T (le y z) → T (le x z)
le_trans nan y z none q s a b = unfold le in absurd a
le_trans (inf false) nan z far none s a b = unfold le in absurd a
le_trans (inf false) (inf false) z far far s a b = b
le_trans (inf false) (fin false n d) z far some s a b = unfold le in absurd a
le_trans (fin false m e) nan z some none s a b = unfold le in absurd a
le_trans (fin false m e) (inf false) nan some far none a b = unfold le in absurd b
le_trans (fin false m e) (inf false) (inf false) some far far a b = unfold le in tt
le_trans (fin false m e) (inf false) (fin false k g) some far some a b = unfold le in absurd b
le_trans (fin false m e) (fin false n d) nan some some none a b = unfold le in absurd b
le_trans (fin false m e) (fin false n d) (inf false) some some far a b = unfold le in tt
le_trans (fin false m e) (fin false n d) (fin false k g) some some some a b =
    le_of_values (fin false m e) (fin false k g) (m * up e) (down e) (k * up g) (down g) (down_pos e) (down_pos g) (refl, refl) (refl, refl)
    (through (m * up e) (n * up d) (k * up g) (down e) (down d) (down g) (down_pos d)
    (crossed (m * up e * down d) (n * up d * down e) (unfold le in a)) (crossed (n * up d * down g) (k * up g * down d) (unfold le in b)))
le_trans (inf false) (inf true) z _ q s a b = elim q [ ]
le_trans (inf false) (fin true n d) z _ q s a b = elim q [ ]
le_trans (inf true) y z x9 q s a b = elim x9 [ ]
le_trans (fin false m e) (inf false) (inf true) _ q s a b = elim s [ ]
le_trans (fin false m e) (inf false) (fin true k g) _ q s a b = elim s [ ]
le_trans (fin false m e) (inf true) z _ q s a b = elim q [ ]
le_trans (fin false m e) (fin false n d) (inf true) _ q s a b = elim s [ ]
le_trans (fin false m e) (fin false n d) (fin true k g) _ q s a b = elim s [ ]
le_trans (fin false m e) (fin true n d) z _ q s a b = elim q [ ]
le_trans (fin true m e) y z x10 q s a b = elim x10 [ ]

pub not_negative : (x : Float) → Square x → is_nan x ≡ false → T (le (fin false 0 (pos 0)) x)
not_negative x q r = not_below x (fin false 0 (pos 0)) q some r (unfold is_nan in refl) (above_zero x q)
  where
    above_zero : (x : Float) → Square x → lt x (fin false 0 (pos 0)) ≡ false
    above_zero nan none = unfold lt in refl
    above_zero (inf false) far = unfold lt in refl
    above_zero (fin false m e) some = unfold lt in le-ltb (m * up e * 1) (0 * down e) (omega (arith, zero-mul (down e)))
    above_zero (inf true) x5 = elim x5 [ ]
    above_zero (fin true m e) x6 = elim x6 [ ]

-- ---- equal values are one: the format writes them with the same bits

module _ (f : Format) (m : ℕ) (e : ℤ) (n : ℕ) (d : ℤ) (t : T (eq (fin false m e) (fin false n d))) where
  cross : m * up e * down d ≡ n * up d * down e
  unfolding eq
  cross = eqb→eq (m * up e * down d) (n * up d * down e) (and_l (m * up e * down d == n * up d * down e) true t)

  as_units : m * up e * 2 ^ low f / down e ≡ n * up d * 2 ^ low f / down d
  as_units =
      div_same (m * up e * 2 ^ low f) (down e) (n * up d * 2 ^ low f) (down d) (down_pos e) (down_pos d)
      (mul_right_comm (m * up e) (2 ^ low f) (down d) ∙ ap (λ (k : ℕ). k * 2 ^ low f) cross ∙ mul_right_comm (n * up d) (down e) (2 ^ low f))

  same_bits : to_bits f (fin false m e) ≡ to_bits f (fin false n d)
  unfolding to_bits
  same_bits = ap (λ (k : ℕ). cond false (top f) 0 + (size k - prec f) * hid f + k / 2 ^ (size k - prec f)) as_units

pub equal_is_same : (f : Format) (x y : Float) → Square x → Square y → T (fits f x) → T (fits f y) → T (eq x y) → x ≡ y
equal_is_same f nan y none q a b t = unfold eq in absurd t
equal_is_same f (inf false) nan far none a b t = unfold eq in absurd t
equal_is_same f (inf false) (inf false) far far a b t = refl
equal_is_same f (inf false) (fin false n d) far some a b t = unfold eq in absurd t
equal_is_same f (fin false m e) nan some none a b t = unfold eq in absurd t
equal_is_same f (fin false m e) (inf false) some far a b t = unfold eq in absurd t
equal_is_same f (fin false m e) (fin false n d) some some a b t =
    sym (of_bits-to_bits f (fin false m e) a) ∙ ap (from_bits f) (same_bits f m e n d t) ∙ of_bits-to_bits f (fin false n d) b
equal_is_same f (inf false) (inf true) _ q a b t = elim q [ ]
equal_is_same f (inf false) (fin true n d) _ q a b t = elim q [ ]
equal_is_same f (inf true) y x9 q a b t = elim x9 [ ]
equal_is_same f (fin false m e) (inf true) _ q a b t = elim q [ ]
equal_is_same f (fin false m e) (fin true n d) _ q a b t = elim q [ ]
equal_is_same f (fin true m e) y x10 q a b t = elim x10 [ ]
