-- What keeps values alike and opposite: if every operand of one computation is alike to, or opposite of, the operand of another, so are the results.
-- First: `add`, `sub`, `mul`, `div`, `narrowed`, `rooted`, the comparisons and the picks do not tell the zeros apart (but for a divisor). Then the laws
-- of `Symmetry` give the same for opposite operands. A sum of products, a quotient and a narrowing of opposite values are opposite by one law each.
-- Assumes nothing.
use Rattle.std.specs.Prelude.{◌≡◌, ℕ, zero, suc, ◌+◌, ◌-◌, ◌*◌, ◌<◌, Bool, true, false, cond, not, ◌&&◌, ◌||◌, T, ltb, ℤ, pos, ◌==◌, nat_lt, Float}
use Rattle.std.proofs.Math.Path.{refl, subst}
use Rattle.std.proofs.Common.{sym, ap, ◌∙◌, true≢false, inr, mul-pos, mul_assoc, zero-mul, arith, ltb-true, ltb-false, lt-ltb, le-ltb, eq-eqb, ne_eqb, eqb→eq}
use Rattle.std.specs.Bool.{beq}
use Rattle.std.proofs.Math.Logic.{inl}
use Rattle.std.specs.Float.{nan, inf, fin, Format, binary32}
use Rattle.std.specs.Float.Ieee.{is_nan, up, down, round, neg, sum, add, sub, mul, div, below, level, lt, eq, le}
use Rattle.std.specs.Float.Ieee.Fits.{up_pos, down_pos}
use Rattle.std.specs.Float.Ieee.Scale.{round_same}
use Rattle.numbers.specs.Arithmetic.{narrowed, rooted, clamped, least, largest}
use Rattle.numbers.specs.Opposite.{is_zero, Alike, Opposite, NegatedOrZero}
use Rattle.numbers.proofs.Laws.Comparing.{holds, same_test, eq_sym, lt_itself, lt_flips}
use Rattle.numbers.proofs.Laws.Symmetry.{round_zero, neg_neg, is_nan_neg, add_neg, sub_neg, mul_neg_left, mul_neg_right, mul_neg_both, div_neg_left, narrowed_neg, lt_neg, eq_neg, le_neg, least_neg, largest_neg}
use Rattle.numbers.proofs.Laws.Commuting.{add_swap, mul_swap}

-- ---- alike: an equivalence

pub alike_refl : (x : Float) → Alike x x
alike_refl x = inl refl

pub alike_sym : (x y : Float) → Alike x y → Alike y x
alike_sym x y (inl h) = inl (sym h)
alike_sym x y (inr z) = inr (z.1, z.0)

pub alike_trans : (x y z : Float) → Alike x y → Alike y z → Alike x z
alike_trans x y z (inl h) k = subst (λ (v : Float). Alike v z) (sym h) k
alike_trans x y z (inr p) (inl k) = inr (p.0, subst (λ (v : Float). T (is_zero v)) k p.1)
alike_trans x y z (inr p) (inr q) = inr (p.0, q.1)

neg_zero : (x : Float) → T (is_zero x) → T (is_zero (neg x))
unfolding neg
neg_zero nan h = h
neg_zero (inf s) h = h
neg_zero (fin s m e) h = h

pub alike_neg : (x y : Float) → Alike x y → Alike (neg x) (neg y)
alike_neg x y (inl h) = inl (ap neg h)
alike_neg x y (inr z) = inr (neg_zero x z.0, neg_zero y z.1)

-- an operation of one operand that takes equal values for zeros, or zeros, keeps values alike
module _ (g : Float → Float) (on-zeros : (s : Bool) (m : ℕ) (e : ℤ) (t : Bool) (n : ℕ) (d : ℤ) → m ≡ 0 → n ≡ 0 → Alike (g (fin s m e)) (g (fin t n d))) where
  kept : (x y : Float) → Alike x y → Alike (g x) (g y)
  kept x y (inl h) = inl (ap g h)
  kept nan y (inr z) = absurd z.0
  kept (inf s) y (inr z) = absurd z.0
  kept (fin s m e) nan (inr z) = absurd z.1
  kept (fin s m e) (inf t) (inr z) = absurd z.1
  kept (fin s m e) (fin t n d) (inr z) = on-zeros s m e t n d (eqb→eq m 0 z.0) (eqb→eq n 0 z.1)

-- ---- rounding a fraction that is zero

zero_round : (f : Format) (s : Bool) (n c : ℕ) → n ≡ 0 → 0 < c → T (is_zero (round f s n c))
zero_round f s n c h C = subst (λ (v : Float). T (is_zero v)) (sym (ap (λ (k : ℕ). round f s k c) h ∙ round_zero f s c C)) tt

no_size : (m : ℕ) (e : ℤ) → m ≡ 0 → m * up e ≡ 0
no_size m e h = ap (λ (k : ℕ). k * up e) h ∙ zero-mul (up e)

nothing : (n c : ℕ) → n ≡ 0 → n * c ≡ 0
nothing n c h = ap (λ (k : ℕ). k * c) h ∙ zero-mul c

pub alike_narrowed : (x y : Float) → Alike x y → Alike (narrowed x) (narrowed y)
unfolding narrowed
alike_narrowed x y a = kept narrowed (λ s m e t n d h k. inr (zero_round binary32 s (m * up e) (down e) (no_size m e h) (down_pos e), zero_round binary32 t (n * up d) (down d) (no_size n d k) (down_pos d))) x y a

-- ---- sum

-- ±a / c and a zero: the sum is ±a / c rounded, alike where that is a zero
sum_first_zero : (f : Format) (s : Bool) (a : ℕ) (t : Bool) (b c : ℕ) → a ≡ 0 → 0 < c → Alike (sum f s a t b c) (round f t b c)
unfolding sum
sum_first_zero f s a t b c h C = rw h (go s t (nat_lt 0 b) refl)
  where
    apart : (s t p : Bool) → nat_lt 0 b ≡ p → Alike (cond p (round f t (b - 0) c) (round f (s && nat_lt b 0) (0 - b) c)) (round f t b c)
    apart s t true k = let z : b - 0 ≡ b = omega arith in inl (ap (λ (n : ℕ). round f t n c) z)
    apart s t false k = let l = ltb-false 0 b k in inr (zero_round f (s && nat_lt b 0) (0 - b) c (omega arith) C, zero_round f t b c (omega arith) C)

    go : (s t p : Bool) → nat_lt 0 b ≡ p → Alike (cond (beq s t) (round f s (0 + b) c) (cond (nat_lt 0 b) (round f t (b - 0) c) (round f (s && nat_lt b 0) (0 - b) c))) (round f t b c)
    go true true p k = let z : 0 + b ≡ b = omega arith in inl (ap (λ (n : ℕ). round f true n c) z)
    go false false p k = let z : 0 + b ≡ b = omega arith in inl (ap (λ (n : ℕ). round f false n c) z)
    go true false p k = rw k (apart true false p k)
    go false true p k = rw k (apart false true p k)

-- a zero and ±n / d, whatever the zero's sign and exponent
zero_and : (f : Format) (s : Bool) (m : ℕ) (e : ℤ) (t : Bool) (n : ℕ) (d : ℤ) → m ≡ 0 → Alike (add f (fin s m e) (fin t n d)) (round f t (n * up d) (down d))
unfolding add
zero_and f s m e t n d h =
    alike_trans _ (round f t (n * up d * down e) (down e * down d)) _
    (sum_first_zero f s (m * up e * down d) t (n * up d * down e) (down e * down d) (nothing (m * up e) (down d) (no_size m e h)) (mul-pos (down_pos e) (down_pos d)))
    (inl (round_same f t (n * up d * down e) (down e * down d) (n * up d) (down d) (mul-pos (down_pos e) (down_pos d)) (down_pos d) (mul_assoc (n * up d) (down e) (down d))))

add_zeros : (f : Format) (y : Float) (s : Bool) (m : ℕ) (e : ℤ) (t : Bool) (n : ℕ) (d : ℤ) → m ≡ 0 → n ≡ 0 → Alike (add f (fin s m e) y) (add f (fin t n d) y)
add_zeros f nan s m e t n d h k = unfold add in inl refl
add_zeros f (inf u) s m e t n d h k = unfold add in inl refl
add_zeros f (fin u j g) s m e t n d h k = alike_trans _ (round f u (j * up g) (down g)) _ (zero_and f s m e u j g h) (alike_sym _ _ (zero_and f t n d u j g k))

pub alike_add : (f : Format) (x x' y y' : Float) → Alike x x' → Alike y y' → Alike (add f x y) (add f x' y')
alike_add f x x' y y' a b =
    alike_trans _ (add f x' y) _ (kept (λ (v : Float). add f v y) (add_zeros f y) x x' a)
    (rw (add_swap f x' y, add_swap f x' y') (kept (λ (v : Float). add f v x') (add_zeros f x') y y' b))

pub alike_sub : (f : Format) (x x' y y' : Float) → Alike x x' → Alike y y' → Alike (sub f x y) (sub f x' y')
unfolding sub
alike_sub f x x' y y' a b = alike_add f x x' (neg y) (neg y') a (alike_neg y y' b)

-- ---- product, and quotient by the same divisor

mul_zeros : (f : Format) (y : Float) (s : Bool) (m : ℕ) (e : ℤ) (t : Bool) (n : ℕ) (d : ℤ) → m ≡ 0 → n ≡ 0 → Alike (mul f (fin s m e) y) (mul f (fin t n d) y)
unfolding mul
mul_zeros f nan s m e t n d h k = inl refl
mul_zeros f (inf u) s m e t n d h k = rw (eq-eqb m 0 h, eq-eqb n 0 k) (inl refl)
mul_zeros f (fin u j g) s m e t n d h k =
    inr (
      zero_round f _ (m * up e * (j * up g)) (down e * down g) (nothing (m * up e) (j * up g) (no_size m e h)) (mul-pos (down_pos e) (down_pos g)),
      zero_round f _ (n * up d * (j * up g)) (down d * down g) (nothing (n * up d) (j * up g) (no_size n d k)) (mul-pos (down_pos d) (down_pos g)),
    )

pub alike_mul : (f : Format) (x x' y y' : Float) → Alike x x' → Alike y y' → Alike (mul f x y) (mul f x' y')
alike_mul f x x' y y' a b =
    alike_trans _ (mul f x' y) _ (kept (λ (v : Float). mul f v y) (mul_zeros f y) x x' a)
    (rw (mul_swap f x' y, mul_swap f x' y') (kept (λ (v : Float). mul f v x') (mul_zeros f x') y y' b))

div_zeros : (f : Format) (y : Float) (s : Bool) (m : ℕ) (e : ℤ) (t : Bool) (n : ℕ) (d : ℤ) → m ≡ 0 → n ≡ 0 → Alike (div f (fin s m e) y) (div f (fin t n d) y)
unfolding div
div_zeros f nan s m e t n d h k = inl refl
div_zeros f (inf u) s m e t n d h k = inr (tt, tt)
div_zeros f (fin u zero g) s m e t n d h k = rw (eq-eqb m 0 h, eq-eqb n 0 k) (inl refl)
div_zeros f (fin u (suc j) g) s m e t n d h k =
    rw (ne_eqb (suc j) 0 (λ z. let p : 0 < suc j = omega arith in omega arith))
    (inr (
      zero_round f _ (m * up e * down g) (suc j * up g * down e) (nothing (m * up e) (down g) (no_size m e h)) (mul-pos (mul-pos (omega arith) (up_pos g)) (down_pos e)),
      zero_round f _ (n * up d * down g) (suc j * up g * down d) (nothing (n * up d) (down g) (no_size n d k)) (mul-pos (mul-pos (omega arith) (up_pos g)) (down_pos d)),
    ))

-- by the same divisor, a zero too: only a divisor's sign tells its zeros apart
pub alike_div : (f : Format) (x x' w : Float) → Alike x x' → Alike (div f x w) (div f x' w)
alike_div f x x' w a = kept (λ (v : Float). div f v w) (div_zeros f w) x x' a

-- values alike that are no zeros are the same
pub alike_same : (x y : Float) → Alike x y → is_zero x ≡ false → x ≡ y
alike_same x y (inl h) z = h
alike_same x y (inr p) z = absurd (subst T z p.0)

pub alike_div_by : (f : Format) (x x' w w' : Float) → Alike x x' → Alike w w' → is_zero w ≡ false → Alike (div f x w) (div f x' w')
alike_div_by f x x' w w' a b z = rw (← alike_same w w' b z) (alike_div f x x' w a)

-- ---- square root

root_zeros : (f : Format) (s : Bool) (m : ℕ) (e : ℤ) (t : Bool) (n : ℕ) (d : ℤ) → m ≡ 0 → n ≡ 0 → Alike (rooted f (fin s m e)) (rooted f (fin t n d))
unfolding rooted
root_zeros f s m e t n d h k = rw (h, k) (inr (tt, tt))

pub alike_rooted : (f : Format) (x y : Float) → Alike x y → Alike (rooted f x) (rooted f y)
alike_rooted f x y a = kept (rooted f) (root_zeros f) x y a

-- ---- comparison, and what is picked by it

-- a test that does not tell zeros apart
module _ (g : Float → Bool) (on-zeros : (s : Bool) (m : ℕ) (e : ℤ) (t : Bool) (n : ℕ) (d : ℤ) → m ≡ 0 → n ≡ 0 → g (fin s m e) ≡ g (fin t n d)) where
  told : (x y : Float) → Alike x y → g x ≡ g y
  told x y (inl h) = ap g h
  told nan y (inr z) = absurd z.0
  told (inf s) y (inr z) = absurd z.0
  told (fin s m e) nan (inr z) = absurd z.1
  told (fin s m e) (inf t) (inr z) = absurd z.1
  told (fin s m e) (fin t n d) (inr z) = on-zeros s m e t n d (eqb→eq m 0 z.0) (eqb→eq n 0 z.1)

pub alike_is_nan : (x y : Float) → Alike x y → is_nan x ≡ is_nan y
alike_is_nan x y a = told is_nan (λ s m e t n d h k. unfold is_nan in refl) x y a

-- a zero against ±n / d
zero_below : (s : Bool) (a : ℕ) (t : Bool) (n u c : ℕ) → a ≡ 0 → 0 < u → 0 < c → below s a t (n * u * c) ≡ (not t && nat_lt 0 n)
zero_below s a t n u c h U C = rw h (go s t)
  where
    some : ltb 0 (n * u * c) ≡ nat_lt 0 n
    some = same_test (nat_lt 0 (n * u * c)) (nat_lt 0 n) (λ k. lt-ltb 0 n (first n (ltb-true 0 (n * u * c) k))) (λ k. lt-ltb 0 (n * u * c) (mul-pos (mul-pos (ltb-true 0 n k) U) C))
      where
        first : (n : ℕ) → 0 < n * u * c → 0 < n
        first zero k = absurd (omega (arith, nothing (0 * u) c (zero-mul u)))
        first (suc n) k = omega arith

    go : (s t : Bool) → below s 0 t (n * u * c) ≡ (not t && nat_lt 0 n)
    go false false = some
    go false true = refl
    go true false = let z : 0 + n * u * c ≡ n * u * c = omega arith in rw z some
    go true true = le-ltb (n * u * c) 0 (omega arith)

lt_zeros : (y : Float) (s : Bool) (m : ℕ) (e : ℤ) (t : Bool) (n : ℕ) (d : ℤ) → m ≡ 0 → n ≡ 0 → lt (fin s m e) y ≡ lt (fin t n d) y
unfolding lt
lt_zeros nan s m e t n d h k = refl
lt_zeros (inf u) s m e t n d h k = refl
lt_zeros (fin u j g) s m e t n d h k =
    zero_below s (m * up e * down g) u j (up g) (down e) (nothing (m * up e) (down g) (no_size m e h)) (up_pos g) (down_pos e)
    ∙ sym (zero_below t (n * up d * down g) u j (up g) (down d) (nothing (n * up d) (down g) (no_size n d k)) (up_pos g) (down_pos d))

pub alike_lt : (x x' y y' : Float) → Alike x x' → Alike y y' → lt x y ≡ lt x' y'
alike_lt x x' y y' a b =
    told (λ (v : Float). lt v y) (lt_zeros y) x x' a
    ∙ sym (lt_neg y x')
    ∙ told (λ (v : Float). lt v (neg x')) (lt_zeros (neg x')) (neg y) (neg y') (alike_neg y y' b)
    ∙ lt_neg y' x'

-- a zero equals ±n / d where n is 0
zero_level : (s : Bool) (a : ℕ) (t : Bool) (n u c : ℕ) → a ≡ 0 → 0 < u → 0 < c → level s a t (n * u * c) ≡ (n == 0)
zero_level s a t n u c h U C = rw h (go s t)
  where
    none : (n : ℕ) → (0 == n * u * c) && true ≡ (n == 0)
    none zero = rw (nothing (0 * u) c (zero-mul u))
    none (suc n) = let p : 0 < suc n * u * c = mul-pos (mul-pos (omega arith) U) C in rw (ne_eqb 0 (suc n * u * c) (λ z. omega arith)) (sym (ne_eqb (suc n) 0 (λ z. omega arith)))

    go : (s t : Bool) → level s 0 t (n * u * c) ≡ (n == 0)
    go false false = none n
    go false true = none n
    go true false = none n
    go true true = none n

eq_zeros : (y : Float) (s : Bool) (m : ℕ) (e : ℤ) (t : Bool) (n : ℕ) (d : ℤ) → m ≡ 0 → n ≡ 0 → eq (fin s m e) y ≡ eq (fin t n d) y
unfolding eq
eq_zeros nan s m e t n d h k = refl
eq_zeros (inf u) s m e t n d h k = refl
eq_zeros (fin u j g) s m e t n d h k =
    zero_level s (m * up e * down g) u j (up g) (down e) (nothing (m * up e) (down g) (no_size m e h)) (up_pos g) (down_pos e)
    ∙ sym (zero_level t (n * up d * down g) u j (up g) (down d) (nothing (n * up d) (down g) (no_size n d k)) (up_pos g) (down_pos d))

pub alike_eq : (x x' y y' : Float) → Alike x x' → Alike y y' → eq x y ≡ eq x' y'
alike_eq x x' y y' a b =
    told (λ (v : Float). eq v y) (eq_zeros y) x x' a
    ∙ eq_sym x' y
    ∙ told (λ (v : Float). eq v x') (eq_zeros x') y y' b
    ∙ eq_sym y' x'

pub alike_le : (x x' y y' : Float) → Alike x x' → Alike y y' → le x y ≡ le x' y'
unfolding le
alike_le x x' y y' a b = rw (alike_lt x x' y y' a b, alike_eq x x' y y' a b)

-- what is above zero is no zero: so it may divide
pub above_not_zero : (x : Float) → lt (fin false 0 (pos 0)) x ≡ true → is_zero x ≡ false
above_not_zero x h = go (is_zero x) refl
  where
    nought : Float
    nought = fin false 0 (pos 0)

    go : (b : Bool) → is_zero x ≡ b → b ≡ false
    go false z = refl
    go true z = absurd (true≢false (sym h ∙ alike_lt nought nought x nought (inl refl) (inr (holds z, tt)) ∙ lt_itself nought))

alike_cond : (p q : Bool) (x x' y y' : Float) → p ≡ q → Alike x x' → Alike y y' → Alike (cond p x y) (cond q x' y')
alike_cond true q x x' y y' h a b = rw (← h) a
alike_cond false q x x' y y' h a b = rw (← h) b

pub alike_least : (x x' y y' : Float) → Alike x x' → Alike y y' → Alike (least x y) (least x' y')
alike_least x x' y y' a b = alike_cond (is_nan x || lt y x) (is_nan x' || lt y' x') y y' x x' (rw (alike_is_nan x x' a, alike_lt y y' x x' b a)) b a

pub alike_largest : (x x' y y' : Float) → Alike x x' → Alike y y' → Alike (largest x y) (largest x' y')
alike_largest x x' y y' a b = alike_cond (is_nan x || lt x y) (is_nan x' || lt x' y') y y' x x' (rw (alike_is_nan x x' a, alike_lt x x' y y' a b)) b a

pub alike_clamped : (x x' lo lo' hi hi' : Float) → Alike x x' → Alike lo lo' → Alike hi hi' → Alike (clamped x lo hi) (clamped x' lo' hi')
alike_clamped x x' lo lo' hi hi' a b c =
    alike_cond (lt x lo) (lt x' lo') lo lo' (cond (lt hi x) hi x) (cond (lt hi' x') hi' x') (alike_lt x x' lo lo' a b) b
    (alike_cond (lt hi x) (lt hi' x') hi hi' x x' (alike_lt hi hi' x x' c a) c a)

-- ---- opposite

pub opposite_neg : (x : Float) → Opposite x (neg x)
opposite_neg x = inl refl

pub opposite_sym : (x y : Float) → Opposite x y → Opposite y x
opposite_sym x y a = alike_sym x (neg y) (subst (λ (v : Float). Alike v (neg y)) (neg_neg x) (alike_neg (neg x) y a))

-- two opposites of one value are alike
pub opposite_twice : (x y z : Float) → Opposite x y → Opposite y z → Alike x z
opposite_twice x y z a b = alike_trans x (neg y) z (alike_sym (neg y) x (opposite_sym x y a)) b

pub opposite_is_nan : (x y : Float) → Opposite x y → is_nan x ≡ is_nan y
opposite_is_nan x y a = sym (is_nan_neg x) ∙ alike_is_nan (neg x) y a

negated : (v r : Float) → NegatedOrZero v r → Alike (neg v) r
negated v r (inl h) = inl (sym h)
negated v r (inr z) = inr (subst (λ (u : Float). T (is_zero (neg u))) (sym z.0) (unfold neg in tt), subst (λ (u : Float). T (is_zero u)) (sym z.1) tt)

pub opposite_add : (f : Format) (x x' y y' : Float) → Opposite x x' → Opposite y y' → Opposite (add f x y) (add f x' y')
opposite_add f x x' y y' a b = alike_trans _ (add f (neg x) (neg y)) _ (negated _ _ (add_neg f x y)) (alike_add f (neg x) x' (neg y) y' a b)

pub opposite_sub : (f : Format) (x x' y y' : Float) → Opposite x x' → Opposite y y' → Opposite (sub f x y) (sub f x' y')
opposite_sub f x x' y y' a b = alike_trans _ (sub f (neg x) (neg y)) _ (negated _ _ (sub_neg f x y)) (alike_sub f (neg x) x' (neg y) y' a b)

-- a weight, the same or alike, on either side
pub opposite_mul : (f : Format) (x x' w w' : Float) → Opposite x x' → Alike w w' → Opposite (mul f x w) (mul f x' w')
opposite_mul f x x' w w' a b = rw (← mul_neg_left f x w) (alike_mul f (neg x) x' w w' a b)

pub opposite_mul_right : (f : Format) (w w' x x' : Float) → Alike w w' → Opposite x x' → Opposite (mul f w x) (mul f w' x')
opposite_mul_right f w w' x x' b a = rw (← mul_neg_right f w x) (alike_mul f w w' (neg x) x' b a)

-- a product of two opposites, as in a square, is alike
pub product_alike : (f : Format) (x x' y y' : Float) → Opposite x x' → Opposite y y' → Alike (mul f x y) (mul f x' y')
product_alike f x x' y y' a b =
    subst (λ (v : Float). Alike v (mul f x' y')) (mul_neg_both f x y) (alike_mul f (neg x) x' (neg y) y' a b)

-- by the same divisor, a zero too; by one that is alike, where it is no zero
pub opposite_div : (f : Format) (x x' w : Float) → Opposite x x' → Opposite (div f x w) (div f x' w)
opposite_div f x x' w a = rw (← div_neg_left f x w) (alike_div f (neg x) x' w a)

pub opposite_div_by : (f : Format) (x x' w w' : Float) → Opposite x x' → Alike w w' → is_zero w ≡ false → Opposite (div f x w) (div f x' w')
opposite_div_by f x x' w w' a b z = rw (← div_neg_left f x w) (alike_div_by f (neg x) x' w w' a b z)

pub opposite_narrowed : (x x' : Float) → Opposite x x' → Opposite (narrowed x) (narrowed x')
opposite_narrowed x x' a = rw (← narrowed_neg x) (alike_narrowed (neg x) x' a)

-- ---- the order turns round

pub opposite_lt : (x x' y y' : Float) → Opposite x x' → Opposite y y' → lt x' y' ≡ lt y x
opposite_lt x x' y y' a b = sym (alike_lt (neg x) x' (neg y) y' a b) ∙ lt_neg x y

-- a value against a level, neither a NaN, and not equal: what was below is not below
pub opposite_lt_flips : (x x' y y' : Float) → Opposite x x' → Opposite y y' → is_nan x ≡ false → is_nan y ≡ false → eq x y ≡ false → lt x' y' ≡ not (lt x y)
opposite_lt_flips x x' y y' a b h k d = opposite_lt x x' y y' a b ∙ lt_flips x y h k d

pub opposite_eq : (x x' y y' : Float) → Opposite x x' → Opposite y y' → eq x' y' ≡ eq x y
opposite_eq x x' y y' a b = sym (alike_eq (neg x) x' (neg y) y' a b) ∙ eq_neg x y

pub opposite_le : (x x' y y' : Float) → Opposite x x' → Opposite y y' → le x' y' ≡ le y x
opposite_le x x' y y' a b = sym (alike_le (neg x) x' (neg y) y' a b) ∙ le_neg x y

pub opposite_least : (x x' y y' : Float) → Opposite x x' → Opposite y y' → Opposite (least x y) (largest x' y')
opposite_least x x' y y' a b = rw (← largest_neg x y) (alike_largest (neg x) x' (neg y) y' a b)

pub opposite_largest : (x x' y y' : Float) → Opposite x x' → Opposite y y' → Opposite (largest x y) (least x' y')
opposite_largest x x' y y' a b = rw (← least_neg x y) (alike_least (neg x) x' (neg y) y' a b)
