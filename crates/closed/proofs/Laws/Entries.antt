-- The rows as a program reads them: the flat table has entry t of row c at c · 16 + t, an edge below 12 within the row and -1 from its end on, and a row is
-- whole triples, at most five, which are emitted in their order. What all rows have in common is computed once. Assumes nothing.
use Rattle.std.specs.Prelude.{◌≡◌, refl, ◌⊎◌, Bool, true, ◌&&◌, List, [], ◌∷◌, map, ℕ, zero, suc, ◌+◌, ◌*◌, ◌≤◌, ◌<◌, eqb, leb, ℤ, pos, negsuc, length, get_or}
use Rattle.std.proofs.Common.{sym, ap, ◌∙◌, subst, inl, inr, ⊎_elim, zero-le, zero-add, suc-add, arith, eqb-true, leb-true, le-leb, le-ltb, lit<}
use Rattle.std.proofs.Math.Decide.{dec_lt}
use Rattle.std.proofs.lemmas.Bool.{lt-leb}
use Rattle.std.proofs.lemmas.List.{length-map}
use Rattle.std.proofs.Math.ListN.{get_or-map, get_or-eq_default}
use Rattle.std.specs.Int.Signed.{mag, lt_z}
use Rattle.closed.specs.Lists.{every}
use Rattle.closed.specs.Faces.{face, faces}
use Rattle.closed.specs.Rows.{rows, row, triangles, emit, emitted, entry, pad, flat, flat_table}
use Rattle.closed.proofs.Laws.Counting.{every_all, all_at, at_map, both_true}
use Rattle.closed.proofs.Laws.Turning.{face_at, corners_faces}
use Rattle.closed.specs.Laws.Entries.{RightRow}

-- ---- what all rows have in common

pub rows_length : length rows ≡ 256
unfolding rows
rows_length = refl

-- whole triples, at most five, of the cube's twelve edges
abbrev right_row : List ℕ → Bool
right_row r = eqb (length r) (3 * length (faces r)) && leb (length r) 15 && every (λ e. leb e 11) r

right_rows : every right_row rows ≡ true
unfolding rows
right_rows = refl

right_row_lem : (r : List ℕ) → right_row r ≡ true → RightRow r
right_row_lem r h =
    let s = both_true (eqb (length r) (3 * length (faces r)) && leb (length r) 15) (every (λ e. leb e 11) r) h in
    let t = both_true (eqb (length r) (3 * length (faces r))) (leb (length r) 15) s.0 in
    record {
      thirds = eqb-true (length r) (3 * length (faces r)) t.0;
      fits = leb-true (length r) 15 t.1;
      edges = λ n b. omega (arith, leb-true (get_or r n 0) 11 (all_at (λ e. leb e 11 ≡ true) r (every_all (λ e. leb e 11) r s.1) 0 n b));
    }

pub row_right : (c : ℕ) → c < 256 → RightRow (row c)
unfolding row
row_right c h =
    right_row_lem (get_or rows c [])
    (all_at (λ r. right_row r ≡ true) rows (every_all right_row rows right_rows) [] c (subst (λ (n : ℕ). c < n) (sym rows_length) h))

-- ---- an entry: an edge within the row, and -1 past it

pub entry_in : (c t : ℕ) → t < length (row c) → entry c t ≡ pos (get_or (row c) t 0)
unfolding entry
entry_in c t h = at_map pos (row c) t 0 (negsuc 0) h

pub entry_end : (c t : ℕ) → length (row c) ≤ t → entry c t ≡ negsuc 0
unfolding entry
entry_end c t h = get_or-eq_default (map pos (row c)) (negsuc 0) {n = t} (subst (λ (n : ℕ). n ≤ t) (sym (length-map (row c) pos)) h)

within_or_past : (c t : ℕ) → (t < length (row c)) ⊎ (length (row c) ≤ t)
within_or_past c t = by_cases (dec_lt t (length (row c)))
  where
    by_cases : Dec (t < length (row c)) → (t < length (row c)) ⊎ (length (row c) ≤ t)
    by_cases (yes p) = inl p
    by_cases (no p) = inr (omega arith)

-- an entry is below zero from the row's end on
pub entry_neg : (c t : ℕ) → lt_z (entry c t) (pos 0) ≡ leb (length (row c)) t
entry_neg c t =
    ⊎_elim
    (λ l. ap (λ (z : ℤ). lt_z z (pos 0)) (entry_in c t l) ∙ le-ltb (get_or (row c) t 0) 0 zero-le ∙ sym (lt-leb (length (row c)) t l))
    (λ l. ap (λ (z : ℤ). lt_z z (pos 0)) (entry_end c t l) ∙ sym (le-leb (length (row c)) t l))
    (within_or_past c t)

-- it is an edge or -1, so it fits a signed byte
pub entry_small : (c t : ℕ) → c < 256 → mag (entry c t) < 12
entry_small c t h =
    ⊎_elim
    (λ l. subst (λ (z : ℤ). mag z < 12) (sym (entry_in c t l)) ((row_right c h).edges t l))
    (λ l. subst (λ (z : ℤ). mag z < 12) (sym (entry_end c t l)) (lit< tt))
    (within_or_past c t)

-- ---- the flat table

pad_in : (n : ℕ) (r : List ℕ) (rest : List ℤ) (d : ℤ) (t : ℕ) → t < n → get_or (pad n r rest) t d ≡ get_or (map pos r) t (negsuc 0)
pad_in zero r rest d t h = absurd (omega arith)
pad_in (suc n) [] rest d zero h = refl
pad_in (suc n) [] rest d (suc t) h = pad_in n [] rest d t (omega arith)
pad_in (suc n) (e ∷ r) rest d zero h = refl
pad_in (suc n) (e ∷ r) rest d (suc t) h = pad_in n r rest d t (omega arith)

pad_past : (n : ℕ) (r : List ℕ) (rest : List ℤ) (d : ℤ) (t : ℕ) → get_or (pad n r rest) (n + t) d ≡ get_or rest t d
pad_past zero r rest d t = ap (λ (i : ℕ). get_or rest i d) (zero-add t)
pad_past (suc n) [] rest d t = rw (suc-add n t) (pad_past n [] rest d t)
pad_past (suc n) (e ∷ r) rest d t = rw (suc-add n t) (pad_past n r rest d t)

flat_at : (rs : List (List ℕ)) (d : ℤ) (c t : ℕ) → c < length rs → t < 16 → get_or (flat rs) (c * 16 + t) d ≡ get_or (map pos (get_or rs c [])) t (negsuc 0)
flat_at [] d c t h k = absurd (omega arith)
flat_at (r ∷ rs) d zero t h k =
    let e : 0 * 16 + t ≡ t = omega arith in
    ap (λ (i : ℕ). get_or (pad 16 r (flat rs)) i d) e ∙ pad_in 16 r (flat rs) d t k
flat_at (r ∷ rs) d (suc c) t h k =
    let e : suc c * 16 + t ≡ 16 + (c * 16 + t) = omega arith in
    ap (λ (i : ℕ). get_or (pad 16 r (flat rs)) i d) e
    ∙ pad_past 16 r (flat rs) d (c * 16 + t)
    ∙ flat_at rs d c t (omega arith) k

pub entry_at : (d : ℤ) (c t : ℕ) → c < 256 → t < 16 → get_or flat_table (c * 16 + t) d ≡ entry c t
unfolding entry row flat_table
entry_at d c t h k = flat_at rows d c t (subst (λ (n : ℕ). c < n) (sym rows_length) h) k

-- ---- the faces that a row emits

pub emitted_length : (c : ℕ) → c < 256 → length (row c) ≡ 3 * length (emitted c)
unfolding emitted triangles
emitted_length c h = (row_right c h).thirds ∙ ap (λ (n : ℕ). 3 * n) (sym (length-map (faces (row c)) emit))

pub emitted_at : (c k : ℕ) → c < 256 → k < length (emitted c)
    → get_or (emitted c) k (face 0 0 0) ≡ face (get_or (row c) (3 * k) 0) (get_or (row c) (3 * k + 2) 0) (get_or (row c) (3 * k + 1) 0)
unfolding emitted triangles
emitted_at c k h b =
    get_or-map emit (faces (row c)) k (face 0 0 0)
    ∙ ap emit (face_at (faces (row c)) k (subst (λ (n : ℕ). k < n) (length-map (faces (row c)) emit) b))
    ∙ ap (λ (r : List ℕ). face (get_or r (3 * k) 0) (get_or r (3 * k + 2) 0) (get_or r (3 * k + 1) 0))
    (corners_faces (length (faces (row c))) (row c) (row_right c h).thirds)
