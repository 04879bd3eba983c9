-- What readers of a text leave of it: `EndOf` holds of what any number of bytes less leaves, and of two readers one after the other. Assumes nothing.
use Rattle.std.specs.Prelude.{◌≡◌, List, ℕ, ◌-◌, ◌+◌, length, drop}
use Rattle.std.proofs.Common.{sym, ap, ◌∙◌, arith, subst, zero, suc, [], ◌∷◌}
use Rattle.std.proofs.lemmas.List.{length-drop, drop-drop}
use Rattle.replay.specs.Words.{EndOf}

-- no more come off than there are
dropped : (k : ℕ) (xs : List ℕ) → drop k xs ≡ drop (length xs - (length xs - k)) xs
dropped zero xs =
    let none : 0 ≡ length xs - (length xs - 0) = omega arith in
    ap (λ (n : ℕ). drop n xs) none
dropped (suc k) [] =
    let none : 0 ≡ 0 - (0 - suc k) = omega arith in
    ap (λ (n : ℕ). drop {A = ℕ} n []) none
dropped (suc k) (x ∷ xs) =
    let one : suc (length xs - (length xs - k)) ≡ suc (length xs) - (suc (length xs) - suc k) = omega arith in
    dropped k xs ∙ ap (λ (n : ℕ). drop n (x ∷ xs)) one

end_dropped : (k : ℕ) (xs : List ℕ) → EndOf xs (drop k xs)
end_dropped k xs = dropped k xs ∙ ap (λ (n : ℕ). drop (length xs - n) xs) (sym (length-drop k xs))

-- what a call leaves that takes a word off, or finds none
pub end_by : (k : ℕ) (xs ys : List ℕ) → ys ≡ drop k xs → EndOf xs ys
end_by k xs ys e = subst (EndOf xs) (sym e) (end_dropped k xs)

pub end_then : (xs ys zs : List ℕ) → EndOf xs ys → EndOf ys zs → EndOf xs zs
end_then xs ys zs p q =
    let i = length xs - length ys in
    let j = length ys - length zs in
    end_by (i + j) xs zs (q ∙ ap (drop j) p ∙ drop-drop j i xs)
