-- What is clamped lies between the ends, and what lies between them stays. Assumes nothing.
use Rattle.std.specs.Prelude.{◌≡◌, Bool, true, false, cond, not, is_nan, refl, Float}
use Rattle.std.proofs.Common.{sym, ap, ◌∙◌}
use Rattle.std.proofs.lemmas.Bool.{not-true}
use Rattle.std.specs.Float.Ieee.{lt, le}
use Rattle.numbers.specs.Arithmetic.{clamped}
use Rattle.numbers.proofs.Laws.Comparing.{lt_itself, le_is, le_numbers}

-- with ends that are not in the wrong order the result is never beyond an end; a NaN is beyond none
pub clamped_between : (x lo hi : Float) → lt hi lo ≡ false → (lt (clamped x lo hi) lo ≡ false) × (lt hi (clamped x lo hi) ≡ false)
clamped_between x lo hi h = go (lt x lo) (lt hi x) refl refl
  where
    go : (a b : Bool) → lt x lo ≡ a → lt hi x ≡ b → (lt (cond a lo (cond b hi x)) lo ≡ false) × (lt hi (cond a lo (cond b hi x)) ≡ false)
    go true b p q = (lt_itself lo, h)
    go false true p q = (h, lt_itself hi)
    go false false p q = (p, q)

clamped_number : (x lo hi : Float) → is_nan x ≡ false → is_nan lo ≡ false → is_nan hi ≡ false → is_nan (clamped x lo hi) ≡ false
clamped_number x lo hi X L H = go (lt x lo) (lt hi x)
  where
    go : (a b : Bool) → is_nan (cond a lo (cond b hi x)) ≡ false
    go true b = L
    go false true = H
    go false false = X

-- lo ≤ hi says that neither end is a NaN. Then a number comes out between them
pub clamped_in : (x lo hi : Float) → is_nan x ≡ false → le lo hi ≡ true → (le lo (clamped x lo hi) ≡ true) × (le (clamped x lo hi) hi ≡ true)
clamped_in x lo hi X h =
    let n = le_numbers lo hi h in
    let r = clamped x lo hi in
    let R = clamped_number x lo hi X n.0 n.1 in
    let b = clamped_between x lo hi (not-true (lt hi lo) (sym (le_is lo hi n.0 n.1) ∙ h)) in
    (le_is lo r n.0 R ∙ ap not b.0, le_is r hi R n.1 ∙ ap not b.1)

pub clamped_same : (x lo hi : Float) → lt x lo ≡ false → lt hi x ≡ false → clamped x lo hi ≡ x
clamped_same x lo hi h k = rw (h, k)
