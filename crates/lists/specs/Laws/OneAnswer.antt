-- That no second outcome fits (`OneOutcome`): the laws by which proofs/OneAnswer of each crate shows it of each public function. A contract that says each
-- part of the outcome by an equation is met by one outcome alone. Assumes nothing.
use Rattle.std.specs.Prelude.{◌≡◌, List, ℕ, zero, suc, ◌*◌, ◌<◌, length, get_or}
use Rattle.std.proofs.Common.{sym, ◌∙◌, subst, arith, ext_get_or}
use Rattle.lists.specs.OneOutcome.{Tight}

-- ---- by equations

-- a result, or a slice, that is said by an equation
pub equation : {A : Type 0} (d : A) → Tight (λ (a : A). a ≡ d)
equation d a b p q = p ∙ sym q

pub same : {A : Type 0} {a b d : A} → a ≡ d → b ≡ d → a ≡ b
same {d = d} p q = equation d _ _ p q

-- two outcomes, part by part: the result, then each parameter; `refl` where no `&mut` stands, and once for all that follow the last
infixr 3 ◌&◌
pub ◌&◌ : {A B : Type 0} {o o' : A × B} → o.0 ≡ o'.0 → o.1 ≡ o'.1 → o ≡ o'
◌&◌ first rest = λ i. (first i, rest i)

-- ---- by what tells a value whole

-- an array is told by its elements
pub by_elements : {A : Type 0} (d : A) (n : ℕ) (a b : List A) → length a ≡ n → length b ≡ n → ((k : ℕ) → k < n → get_or a k d ≡ get_or b k d) → a ≡ b
by_elements d n a b la lb each = ext_get_or d a b (la ∙ sym lb) (λ k h. each k (subst (λ (m : ℕ). k < m) la h))

-- one of three, by the three
pub by_three : {A : Type 0} (d : A) (a b : List A) → length a ≡ 3 → length b ≡ 3
    → get_or a 0 d ≡ get_or b 0 d → get_or a 1 d ≡ get_or b 1 d → get_or a 2 d ≡ get_or b 2 d → a ≡ b
by_three d a b la lb p q r = by_elements d 3 a b la lb each
  where
    each : (k : ℕ) → k < 3 → get_or a k d ≡ get_or b k d
    each zero h = p
    each (suc zero) h = q
    each (suc (suc zero)) h = r
    each (suc (suc (suc k))) h = absurd (omega arith)

-- a count by three times it
pub by_thrice : {v w n : ℕ} → n ≡ 3 * v → n ≡ 3 * w → v ≡ w
by_thrice p q = omega arith
