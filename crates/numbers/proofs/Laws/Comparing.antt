-- What a comparison of two values tells: by cases on the values, and for finite ones by the fractions that they equal. Assumes nothing.
use Rattle.std.specs.Prelude.{◌≡◌, ℕ, zero, suc, ◌+◌, ◌*◌, ◌<◌, ◌≤◌, Bool, true, false, not, ◌&&◌, ◌||◌, T, ◌==◌, ◌≢◌, nat_lt, refl, Float}
use Rattle.std.proofs.Common.{sym, ap, ◌∙◌, subst, true≢false, mul_comm, mul_right_comm, mul-pos, add-mul, zero-mul, mul-le-mul_right, mul-lt-mul_of_pos_right, lt_of_mul-lt-mul_right, arith, ltb-true, ltb-false, eqb-true, lt-ltb, le-ltb, eq-eqb}
use Rattle.std.specs.Bool.{beq}
use Rattle.std.proofs.lemmas.Bool.{false≢true, eqb-false}
use Rattle.std.proofs.Math.Nat.{mul-mul-mul_comm, eq_of_mul-eq-mul_right}
use Rattle.std.specs.Float.Ieee.{nan, up, down, below, level, lt, eq, le, ne, is_nan}
use Rattle.std.specs.Float.{inf, fin}
use Rattle.std.specs.Float.Ieee.Exact.{HasValue}
use Rattle.std.specs.Float.Ieee.Fits.{down_pos}

-- ---- a test, as a truth value and as a fact

pub holds : {b : Bool} → b ≡ true → T b
holds h = subst T (sym h) tt

ltb_same : (a : ℕ) → nat_lt a a ≡ false
ltb_same a = le-ltb a a (omega arith)

pub eqb_sym : (a b : ℕ) → (a == b) ≡ (b == a)
eqb_sym a b = go (a == b) (b == a) refl refl
  where
    go : (p q : Bool) → (a == b) ≡ p → (b == a) ≡ q → p ≡ q
    go true true e f = refl
    go false false e f = refl
    go true false e f = absurd (eqb-false b a f (sym (eqb-true a b e)))
    go false true e f = absurd (eqb-false a b e (sym (eqb-true b a f)))

-- ---- a value with itself

-- only a NaN differs from itself
pub ne_itself : (x : Float) → ne x x ≡ is_nan x
unfolding ne is_nan
ne_itself nan = refl
ne_itself (inf true) = refl
ne_itself (inf false) = refl
ne_itself (fin true m e) = rw (eq-eqb (m * up e * down e) (m * up e * down e) refl)
ne_itself (fin false m e) = rw (eq-eqb (m * up e * down e) (m * up e * down e) refl)

pub lt_itself : (x : Float) → lt x x ≡ false
unfolding lt
lt_itself nan = refl
lt_itself (inf true) = refl
lt_itself (inf false) = refl
lt_itself (fin true m e) = ltb_same (m * up e * down e)
lt_itself (fin false m e) = ltb_same (m * up e * down e)

-- ---- two values

pub eq_sym : (x y : Float) → eq x y ≡ eq y x
unfolding eq
eq_sym nan nan = refl
eq_sym nan (inf t) = refl
eq_sym nan (fin t n d) = refl
eq_sym (inf s) nan = refl
eq_sym (inf true) (inf true) = refl
eq_sym (inf true) (inf false) = refl
eq_sym (inf false) (inf true) = refl
eq_sym (inf false) (inf false) = refl
eq_sym (inf s) (fin t n d) = refl
eq_sym (fin s m e) nan = refl
eq_sym (fin s m e) (inf t) = refl
eq_sym (fin s m e) (fin t n d) = level_sym s (m * up e * down d) t (n * up d * down e)
  where
    beq_sym : (s t : Bool) → beq s t ≡ beq t s
    beq_sym true true = refl
    beq_sym true false = refl
    beq_sym false true = refl
    beq_sym false false = refl

    level_sym : (s : Bool) (a : ℕ) (t : Bool) (b : ℕ) → level s a t b ≡ level t b s a
    level_sym s a t b = go (a == b) refl
      where
        go : (p : Bool) → (a == b) ≡ p → level s a t b ≡ level t b s a
        go true h = rw (beq_sym s t, eqb-true a b h)
        go false h = rw (eqb_sym b a, h)

-- two tests that follow from each other
pub same_test : (p q : Bool) → (p ≡ true → q ≡ true) → (q ≡ true → p ≡ true) → p ≡ q
same_test true q f g = sym (f refl)
same_test false true f g = g refl
same_test false false f g = refl

-- where neither is a NaN, "not above" is the contrary of "above"
ltb_or_eqb : (a b : ℕ) → nat_lt a b || (a == b && true) ≡ not (nat_lt b a)
ltb_or_eqb a b = go (nat_lt a b) (a == b) (nat_lt b a) refl refl refl
  where
    go : (p q r : Bool) → nat_lt a b ≡ p → (a == b) ≡ q → nat_lt b a ≡ r → p || (q && true) ≡ not r
    go true q false u v w = refl
    go true q true u v w = absurd (omega (arith, ltb-true a b u, ltb-true b a w))
    go false true false u v w = refl
    go false true true u v w = absurd (omega (arith, eqb-true a b v, ltb-true b a w))
    go false false true u v w = refl
    go false false false u v w = absurd (eqb-false a b v (omega (arith, ltb-false a b u, ltb-false b a w)))

-- of a number that is not negative and one that is: they are equal only as zeros
both_zero : (a b : ℕ) → (a == b) && (a == 0) ≡ not (nat_lt 0 (b + a))
both_zero a b = go (a == b) (a == 0) (nat_lt 0 (b + a)) refl refl refl
  where
    go : (p q r : Bool) → (a == b) ≡ p → (a == 0) ≡ q → nat_lt 0 (b + a) ≡ r → p && q ≡ not r
    go true true true u v w = absurd (omega (arith, eqb-true a b u, eqb-true a 0 v, ltb-true 0 (b + a) w))
    go true true false u v w = refl
    go true false true u v w = refl
    go true false false u v w = absurd (eqb-false a 0 v (omega (arith, ltb-false 0 (b + a) w)))
    go false q true u v w = refl
    go false q false u v w = absurd (eqb-false a b u (omega (arith, ltb-false 0 (b + a) w)))

not_or_above : (a b : ℕ) → nat_lt 0 (a + b) || (a == b && a == 0) ≡ true
not_or_above a b = go (nat_lt 0 (a + b)) refl
  where
    go : (p : Bool) → nat_lt 0 (a + b) ≡ p → p || (a == b && a == 0) ≡ true
    go true h = refl
    go false h = let z = ltb-false 0 (a + b) h in rw (eq-eqb a b (omega arith), eq-eqb a 0 (omega arith))

pub le_is : (x y : Float) → is_nan x ≡ false → is_nan y ≡ false → le x y ≡ not (lt y x)
unfolding le lt is_nan
le_is nan y h k = absurd (true≢false h)
le_is (inf s) nan h k = absurd (true≢false k)
le_is (inf true) (inf true) h k = refl
le_is (inf true) (inf false) h k = refl
le_is (inf false) (inf true) h k = refl
le_is (inf false) (inf false) h k = refl
le_is (inf true) (fin t n d) h k = refl
le_is (inf false) (fin t n d) h k = refl
le_is (fin s m e) nan h k = absurd (true≢false k)
le_is (fin s m e) (inf true) h k = refl
le_is (fin s m e) (inf false) h k = refl
le_is (fin false m e) (fin false n d) h k = ltb_or_eqb (m * up e * down d) (n * up d * down e)
le_is (fin false m e) (fin true n d) h k = both_zero (m * up e * down d) (n * up d * down e)
le_is (fin true m e) (fin false n d) h k = not_or_above (m * up e * down d) (n * up d * down e)
le_is (fin true m e) (fin true n d) h k = rw (eqb_sym (m * up e * down d) (n * up d * down e)) (ltb_or_eqb (n * up d * down e) (m * up e * down d))

-- what is not above is no NaN
pub le_numbers : (x y : Float) → le x y ≡ true → (is_nan x ≡ false) × (is_nan y ≡ false)
unfolding le is_nan
le_numbers nan y h = absurd (false≢true h)
le_numbers (inf s) nan h = absurd (false≢true h)
le_numbers (inf s) (inf t) h = (refl, refl)
le_numbers (inf s) (fin t n d) h = (refl, refl)
le_numbers (fin s m e) nan h = absurd (false≢true h)
le_numbers (fin s m e) (inf t) h = (refl, refl)
le_numbers (fin s m e) (fin t n d) h = (refl, refl)

pub lt_numbers : (x y : Float) → lt x y ≡ true → (is_nan x ≡ false) × (is_nan y ≡ false)
unfolding lt is_nan
lt_numbers nan y h = absurd (false≢true h)
lt_numbers (inf s) nan h = absurd (false≢true h)
lt_numbers (inf s) (inf t) h = (refl, refl)
lt_numbers (inf s) (fin t n d) h = (refl, refl)
lt_numbers (fin s m e) nan h = absurd (false≢true h)
lt_numbers (fin s m e) (inf t) h = (refl, refl)
lt_numbers (fin s m e) (fin t n d) h = (refl, refl)

-- no x is below y while y is not above it
pub lt_not_le : (x y : Float) → lt x y ≡ true → le y x ≢ true
lt_not_le x y h k = let n = lt_numbers x y h in true≢false (sym k ∙ le_is y x n.1 n.0 ∙ ap not h)

-- of two numbers that are not equal one is below the other, and not both
pub lt_flips : (x y : Float) → is_nan x ≡ false → is_nan y ≡ false → eq x y ≡ false → lt y x ≡ not (lt x y)
lt_flips x y h k d = go (lt x y) (lt y x) refl refl
  where
    is : lt x y || eq x y ≡ not (lt y x)
    is = unfold le in le_is x y h k

    go : (p q : Bool) → lt x y ≡ p → lt y x ≡ q → q ≡ not p
    go true true u v = absurd (true≢false (sym (ap (λ (b : Bool). b || eq x y) u) ∙ is ∙ ap not v))
    go true false u v = refl
    go false true u v = refl
    go false false u v = absurd (true≢false (sym (sym (ap (λ (b : Bool). b || eq x y) u ∙ d) ∙ is ∙ ap not v)))

-- ---- finite values, by any fractions that they equal

-- a / c below b / d and b / d below g / h
lt_through : (a c b d g h : ℕ) → 0 < c → a * d < b * c → b * h < g * d → a * h < g * c
lt_through a c b d g h C p q =
    let l : a * d * h ≤ b * c * h = mul-le-mul_right h (omega arith) in
    let r : b * h * c < g * d * c = mul-lt-mul_of_pos_right q C in
    lt_of_mul-lt-mul_right d (omega (arith, mul_right_comm a d h, mul_right_comm b c h, mul_right_comm g d c))

above_zero : (n d : ℕ) {k : ℕ} → k < n * d → 0 < n
above_zero zero d h = absurd (omega (arith, zero-mul d))
above_zero (suc n) d h = omega arith

pub lt_trans : (x y z : Float) → lt x y ≡ true → lt y z ≡ true → lt x z ≡ true
unfolding lt
lt_trans nan y z p q = absurd (false≢true p)
lt_trans (inf s) nan z p q = absurd (false≢true p)
lt_trans (inf false) (inf t) z p q = absurd (false≢true p)
lt_trans (inf true) (inf true) z p q = absurd (false≢true p)
lt_trans (inf true) (inf false) nan p q = absurd (false≢true q)
lt_trans (inf true) (inf false) (inf u) p q = absurd (false≢true q)
lt_trans (inf true) (inf false) (fin u k g) p q = absurd (false≢true q)
lt_trans (inf false) (fin t n d) z p q = absurd (false≢true p)
lt_trans (inf true) (fin t n d) nan p q = absurd (false≢true q)
lt_trans (inf true) (fin t n d) (inf true) p q = absurd (false≢true q)
lt_trans (inf true) (fin t n d) (inf false) p q = refl
lt_trans (inf true) (fin t n d) (fin u k g) p q = refl
lt_trans (fin s m e) nan z p q = absurd (false≢true p)
lt_trans (fin s m e) (inf true) z p q = absurd (false≢true p)
lt_trans (fin s m e) (inf false) nan p q = absurd (false≢true q)
lt_trans (fin s m e) (inf false) (inf u) p q = absurd (false≢true q)
lt_trans (fin s m e) (inf false) (fin u k g) p q = absurd (false≢true q)
lt_trans (fin s m e) (fin t n d) nan p q = absurd (false≢true q)
lt_trans (fin s m e) (fin t n d) (inf true) p q = absurd (false≢true q)
lt_trans (fin s m e) (fin t n d) (inf false) p q = refl
lt_trans (fin s m e) (fin t n d) (fin u k g) p q = go s t u p q
  where
    a : ℕ
    a = m * up e

    b : ℕ
    b = n * up d

    c : ℕ
    c = k * up g

    go : (s t u : Bool) → below s (a * down d) t (b * down e) ≡ true → below t (b * down g) u (c * down d) ≡ true → below s (a * down g) u (c * down e) ≡ true
    go false true u p q = absurd (false≢true p)
    go s false true p q = absurd (false≢true q)
    go false false false p q = lt-ltb _ _ (lt_through a (down e) b (down d) c (down g) (down_pos e) (ltb-true _ _ p) (ltb-true _ _ q))
    go true true true p q = lt-ltb _ _ (lt_through c (down g) b (down d) a (down e) (down_pos g) (ltb-true _ _ q) (ltb-true _ _ p))
    go true false false p q = let h : 0 < c * down e = mul-pos (above_zero c (down d) (ltb-true (b * down g) (c * down d) q)) (down_pos e) in lt-ltb 0 (a * down g + c * down e) (omega arith)
    go true true false p q = let h : 0 < a * down g = mul-pos (above_zero a (down d) (ltb-true (b * down e) (a * down d) p)) (down_pos g) in lt-ltb 0 (a * down g + c * down e) (omega arith)

module _ (k j : ℕ) (K : 0 < k) (J : 0 < j) where
  ltb_scale : (X Y A B : ℕ) → X * k ≡ A * j → Y * k ≡ B * j → nat_lt X Y ≡ nat_lt A B
  ltb_scale X Y A B p q =
      same_test (nat_lt X Y) (nat_lt A B)
      (λ h. lt-ltb A B (lt_of_mul-lt-mul_right j (omega (arith, mul-lt-mul_of_pos_right (ltb-true X Y h) K))))
      (λ h. lt-ltb X Y (lt_of_mul-lt-mul_right k (omega (arith, mul-lt-mul_of_pos_right (ltb-true A B h) J))))

  eqb_scale : (X Y A B : ℕ) → X * k ≡ A * j → Y * k ≡ B * j → (X == Y) ≡ (A == B)
  eqb_scale X Y A B p q =
      same_test (X == Y) (A == B)
      (λ h. eq-eqb A B (eq_of_mul-eq-mul_right j J A B (sym p ∙ ap (λ (n : ℕ). n * k) (eqb-true X Y h) ∙ q)))
      (λ h. eq-eqb X Y (eq_of_mul-eq-mul_right k K X Y (p ∙ ap (λ (n : ℕ). n * j) (eqb-true A B h) ∙ sym q)))

  below_scale : (s t : Bool) (X Y A B : ℕ) → X * k ≡ A * j → Y * k ≡ B * j → below s X t Y ≡ below s A t B
  below_scale false false X Y A B p q = ltb_scale X Y A B p q
  below_scale false true X Y A B p q = refl
  below_scale true false X Y A B p q = ltb_scale 0 (X + Y) 0 (A + B) (zero-mul k ∙ sym (zero-mul j)) (add-mul X Y k ∙ ap (λ (n : ℕ). n + Y * k) p ∙ ap (λ (n : ℕ). A * j + n) q ∙ sym (add-mul A B j))
  below_scale true true X Y A B p q = ltb_scale Y X B A q p

  level_scale : (s t : Bool) (X Y A B : ℕ) → X * k ≡ A * j → Y * k ≡ B * j → level s X t Y ≡ level s A t B
  level_scale s t X Y A B p q = rw (eqb_scale X Y A B p q, eqb_scale X 0 A 0 p (zero-mul k ∙ sym (zero-mul j)))

-- x is ±a / c and y is ±b / d: their order is that of the fractions
module _ (s t : Bool) (a c b d : ℕ) (C : 0 < c) (D : 0 < d) where
  left : (m n de dd : ℕ) → m * c ≡ a * de → m * dd * (c * d) ≡ a * d * (de * dd)
  left m n de dd p = mul-mul-mul_comm m dd c d ∙ ap (λ (z : ℕ). z * (dd * d)) p ∙ ap (λ (z : ℕ). a * de * z) (mul_comm dd d) ∙ mul-mul-mul_comm a de d dd

  right : (m n de dd : ℕ) → n * d ≡ b * dd → n * de * (c * d) ≡ b * c * (de * dd)
  right m n de dd q =
      ap (λ (z : ℕ). n * de * z) (mul_comm c d) ∙ mul-mul-mul_comm n de d c ∙ ap (λ (z : ℕ). z * (de * c)) q ∙ ap (λ (z : ℕ). b * dd * z) (mul_comm de c) ∙ mul-mul-mul_comm b dd c de ∙ ap (λ (z : ℕ). b * c * z) (mul_comm dd de)

  pub lt_values : (x y : Float) → HasValue x s a c → HasValue y t b d → lt x y ≡ below s (a * d) t (b * c)
  unfolding lt
  lt_values nan y p q = absurd p
  lt_values (inf u) y p q = absurd p
  lt_values (fin u m e) nan p q = absurd q
  lt_values (fin u m e) (inf v) p q = absurd q
  lt_values (fin u m e) (fin v n g) p q =
      rw (p.0, q.0)
      (below_scale (c * d) (down e * down g) (mul-pos C D) (mul-pos (down_pos e) (down_pos g)) s t (m * up e * down g) (n * up g * down e) (a * d) (b * c)
      (left (m * up e) (n * up g) (down e) (down g) p.1) (right (m * up e) (n * up g) (down e) (down g) q.1))

  pub eq_values : (x y : Float) → HasValue x s a c → HasValue y t b d → eq x y ≡ level s (a * d) t (b * c)
  unfolding eq
  eq_values nan y p q = absurd p
  eq_values (inf u) y p q = absurd p
  eq_values (fin u m e) nan p q = absurd q
  eq_values (fin u m e) (inf v) p q = absurd q
  eq_values (fin u m e) (fin v n g) p q =
      rw (p.0, q.0)
      (level_scale (c * d) (down e * down g) (mul-pos C D) (mul-pos (down_pos e) (down_pos g)) s t (m * up e * down g) (n * up g * down e) (a * d) (b * c)
      (left (m * up e) (n * up g) (down e) (down g) p.1) (right (m * up e) (n * up g) (down e) (down g) q.1))

  pub le_values : (x y : Float) → HasValue x s a c → HasValue y t b d → le x y ≡ (below s (a * d) t (b * c) || level s (a * d) t (b * c))
  unfolding le
  le_values x y p q = rw (lt_values x y p q, eq_values x y p q)
