-- A sum and a product do not turn on the order of their two operands: both are rounded from one fraction, and the rule for a zero sum names neither.
-- Assumes nothing.
use Rattle.std.specs.Prelude.{◌≡◌, ℕ, ◌-◌, ◌*◌, Bool, true, false, cond, not, ◌&&◌, ◌==◌, nat_lt, refl, Float}
use Rattle.std.proofs.Common.{ap, ◌∙◌, add_comm, mul_comm, arith, ltb-true, ltb-false}
use Rattle.std.specs.Float.{nan, inf, fin, Format}
use Rattle.std.specs.Float.Ieee.{unlike, up, down, round, sum, add, mul}

-- of ±a / c and ∓b / c, with what the two tests say
apart : (f : Format) (s : Bool) (a b c : ℕ) (p q : Bool) → nat_lt a b ≡ p → nat_lt b a ≡ q
    → cond p (round f (not s) (b - a) c) (round f (s && q) (a - b) c) ≡ cond q (round f s (a - b) c) (round f (not s && p) (b - a) c)
apart f s a b c true true h k = absurd (omega (arith, ltb-true a b h, ltb-true b a k))
apart f true a b c true false h k = refl
apart f false a b c true false h k = refl
apart f true a b c false true h k = refl
apart f false a b c false true h k = refl
apart f true a b c false false h k = ap (λ (n : ℕ). round f false n c) (omega (arith, ltb-false a b h, ltb-false b a k))
apart f false a b c false false h k = ap (λ (n : ℕ). round f false n c) (omega (arith, ltb-false a b h, ltb-false b a k))

sum_swap : (f : Format) (s : Bool) (a : ℕ) (t : Bool) (b c : ℕ) → sum f s a t b c ≡ sum f t b s a c
unfolding sum
sum_swap f true a true b c = ap (λ (n : ℕ). round f true n c) (add_comm a b)
sum_swap f false a false b c = ap (λ (n : ℕ). round f false n c) (add_comm a b)
sum_swap f true a false b c = apart f true a b c (nat_lt a b) (nat_lt b a) refl refl
sum_swap f false a true b c = apart f false a b c (nat_lt a b) (nat_lt b a) refl refl

pub add_swap : (f : Format) (x y : Float) → add f x y ≡ add f y x
unfolding add
add_swap f nan nan = refl
add_swap f nan (inf t) = refl
add_swap f nan (fin t n d) = refl
add_swap f (inf s) nan = refl
add_swap f (inf true) (inf true) = refl
add_swap f (inf true) (inf false) = refl
add_swap f (inf false) (inf true) = refl
add_swap f (inf false) (inf false) = refl
add_swap f (inf s) (fin t n d) = refl
add_swap f (fin s m e) nan = refl
add_swap f (fin s m e) (inf t) = refl
add_swap f (fin s m e) (fin t n d) =
    sum_swap f s (m * up e * down d) t (n * up d * down e) (down e * down d) ∙ ap (λ (c : ℕ). sum f t (n * up d * down e) s (m * up e * down d) c) (mul_comm (down e) (down d))

unlike_swap : (s t : Bool) → unlike s t ≡ unlike t s
unlike_swap true true = refl
unlike_swap true false = refl
unlike_swap false true = refl
unlike_swap false false = refl

pub mul_swap : (f : Format) (x y : Float) → mul f x y ≡ mul f y x
unfolding mul
mul_swap f nan nan = refl
mul_swap f nan (inf t) = refl
mul_swap f nan (fin t n d) = refl
mul_swap f (inf s) nan = refl
mul_swap f (inf s) (inf t) = ap inf (unlike_swap s t)
mul_swap f (inf s) (fin t n d) = ap (λ (u : Bool). cond (n == 0) nan (inf u)) (unlike_swap s t)
mul_swap f (fin s m e) nan = refl
mul_swap f (fin s m e) (inf t) = ap (λ (u : Bool). cond (m == 0) nan (inf u)) (unlike_swap s t)
mul_swap f (fin s m e) (fin t n d) =
    ap (λ (u : Bool). round f u (m * up e * (n * up d)) (down e * down d)) (unlike_swap s t)
    ∙ ap (λ (a : ℕ). round f (unlike t s) a (down e * down d)) (mul_comm (m * up e) (n * up d))
    ∙ ap (λ (c : ℕ). round f (unlike t s) (n * up d * (m * up e)) c) (mul_comm (down e) (down d))
