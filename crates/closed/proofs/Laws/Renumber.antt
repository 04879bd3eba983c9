-- Renumbering: the numbers of a list, each once, in the order of first use (`dedup`), and the place of a number in that order (`index_of`): the same numbers,
-- no repeats, places that tell them apart, all of it kept under a renaming one to one; and the lent table (`slot`) that a program keeps for it.
-- By induction on the list, by cases of whether a number is noted. Assumes nothing.
use Rattle.std.specs.Prelude.{◌≡◌, refl, ◌≢◌, ◌⊎◌, Bool, true, false, cond, ◌||◌, List, [], ◌∷◌, ◌++◌, map, ℕ, zero, suc, ◌≤◌, ◌<◌, eqb, length, get_or}
use Rattle.std.proofs.Common.{sym, ap, ap₂, ◌∙◌, subst, inl, inr, ⊎_elim, true≢false, append_assoc, append-nil, arith, eq-eqb, ne_eqb, length-append, ext_get_or}
use Rattle.std.proofs.lemmas.Bool.{false≢true}
use Rattle.std.proofs.Math.Bool.{or_assoc, or-false}
use Rattle.std.proofs.lemmas.List.{map-append, length-map, get_or_at}
use Rattle.std.proofs.Math.Decide.{dec_lt}
use Rattle.std.proofs.Math.ListN.{get_or-append}
use Rattle.std.proofs.Math.Seq.{get_or-append_seam}
use Rattle.closed.specs.Lists.{All, member, In, upto}
use Rattle.closed.specs.Numbering.{note, grow, dedup, index_of, slot, NoRepeat, Injective}
use Rattle.closed.proofs.Laws.Counting.{same?, eqb_map, at_map}

-- ---- membership

or_right : (p q : Bool) → q ≡ true → (p || q) ≡ true
or_right true q e = refl
or_right false q e = e

or_left : (p q : Bool) → p ≡ true → (p || q) ≡ true
or_left p q e = ap (λ (t : Bool). t || q) e

pub either : (t : Bool) → (t ≡ true) ⊎ (t ≡ false)
either true = inl refl
either false = inr refl

pub in_or_not : (x : ℕ) (l : List ℕ) → In x l ⊎ (member x l ≡ false)
in_or_not x l = either (member x l)

pub not_in_nil : (x : ℕ) → In x [] → ⊥
unfolding member
not_in_nil x h = false≢true h

pub in_head : (x : ℕ) (l : List ℕ) → In x (x ∷ l)
unfolding member
in_head x l = or_left (eqb x x) (member x l) (eq-eqb x x refl)

pub in_tail : (x y : ℕ) (l : List ℕ) → In x l → In x (y ∷ l)
unfolding member
in_tail x y l h = or_right (eqb x y) (member x l) h

pub in_cases : (x y : ℕ) (l : List ℕ) → In x (y ∷ l) → (x ≡ y) ⊎ In x l
unfolding member
in_cases x y l h = ⊎_elim (λ e. inl e.0) (λ n. inr (sym (ap (λ (t : Bool). t || member x l) n.1) ∙ h)) (same? x y)

pub in_rest : (x y : ℕ) (l : List ℕ) → x ≢ y → In x (y ∷ l) → In x l
in_rest x y l d h = ⊎_elim (λ e. absurd (d e)) (λ m. m) (in_cases x y l h)

pub member_append : (x : ℕ) (l m : List ℕ) → member x (l ++ m) ≡ (member x l || member x m)
unfolding member
member_append x [] m = refl
member_append x (y ∷ l) m = ap (λ (t : Bool). eqb x y || t) (member_append x l m) ∙ sym (or_assoc (eqb x y) (member x l) (member x m))

pub in_append_left : (x : ℕ) (l m : List ℕ) → In x l → In x (l ++ m)
in_append_left x l m h = member_append x l m ∙ or_left (member x l) (member x m) h

pub in_append_right : (x : ℕ) (l m : List ℕ) → In x m → In x (l ++ m)
in_append_right x l m h = member_append x l m ∙ or_right (member x l) (member x m) h

-- what stands at a place stands in the list
pub in_at : (l : List ℕ) (d i : ℕ) → i < length l → In (get_or l i d) l
in_at [] d i h = absurd (omega arith)
in_at (y ∷ l) d zero h = in_head y l
in_at (y ∷ l) d (suc i) h = in_tail (get_or l i d) y l (in_at l d i (omega arith))

-- ---- the place of a number in a list

index_here : (x y : ℕ) (l : List ℕ) → eqb x y ≡ true → index_of x (y ∷ l) ≡ 0
unfolding index_of
index_here x y l e = rw e refl

index_there : (x y : ℕ) (l : List ℕ) → eqb x y ≡ false → index_of x (y ∷ l) ≡ suc (index_of x l)
unfolding index_of
index_there x y l e = rw e refl

pub index_of_lt : (x : ℕ) (l : List ℕ) → In x l → index_of x l < length l
index_of_lt x [] h = absurd (not_in_nil x h)
index_of_lt x (y ∷ l) h =
    ⊎_elim
    (λ e. omega (arith, index_here x y l e.1))
    (λ n. omega (arith, index_there x y l n.1, index_of_lt x l (in_rest x y l n.0 h)))
    (same? x y)

-- a number in the list stands at its place
pub at_index_of : (x : ℕ) (l : List ℕ) (d : ℕ) → In x l → get_or l (index_of x l) d ≡ x
at_index_of x [] d h = absurd (not_in_nil x h)
at_index_of x (y ∷ l) d h =
    ⊎_elim
    (λ e. ap (λ (i : ℕ). get_or (y ∷ l) i d) (index_here x y l e.1) ∙ sym e.0)
    (λ n. ap (λ (i : ℕ). get_or (y ∷ l) i d) (index_there x y l n.1)
    ∙ at_index_of x l d (in_rest x y l n.0 h))
    (same? x y)

-- different numbers in the list have different places
pub index_of_injective : (x y : ℕ) (l : List ℕ) → In x l → In y l → index_of x l ≡ index_of y l → x ≡ y
index_of_injective x y l hx hy e = sym (at_index_of x l 0 hx) ∙ ap (λ (i : ℕ). get_or l i 0) e ∙ at_index_of y l 0 hy

-- ---- where nothing repeats

-- where nothing repeats, the place of what stands at v is v
pub index_of_at : (l : List ℕ) → NoRepeat l → (v : ℕ) → v < length l → index_of (get_or l v 0) l ≡ v
index_of_at l u v h =
    let m : In (get_or l v 0) l = in_at l 0 v h in
    u (index_of (get_or l v 0) l) v (index_of_lt (get_or l v 0) l m) h (at_index_of (get_or l v 0) l 0 m)

pub index_of_append : (x : ℕ) (l m : List ℕ) → In x l → index_of x (l ++ m) ≡ index_of x l
index_of_append x [] m h = absurd (not_in_nil x h)
index_of_append x (y ∷ l) m h =
    ⊎_elim
    (λ e. index_here x y (l ++ m) e.1 ∙ sym (index_here x y l e.1))
    (λ n. index_there x y (l ++ m) n.1
    ∙ ap suc (index_of_append x l m (in_rest x y l n.0 h))
    ∙ sym (index_there x y l n.1))
    (same? x y)

-- a number that is not in l, put behind it, has the place `length l`
pub index_of_new : (x : ℕ) (l m : List ℕ) → member x l ≡ false → index_of x (l ++ (x ∷ m)) ≡ length l
unfolding member
index_of_new x [] m h = index_here x x m (eq-eqb x x refl)
index_of_new x (y ∷ l) m h =
    ⊎_elim
    (λ e. absurd (true≢false (sym (or_left (eqb x y) (member x l) e.1) ∙ h)))
    (λ n. index_there x y (l ++ (x ∷ m)) n.1
    ∙ ap suc (index_of_new x l m (sym (ap (λ (t : Bool). t || member x l) n.1) ∙ h)))
    (same? x y)

-- ---- each number once, in the order of first use

-- a number that is known changes nothing; a new one comes last
pub note_old : (seen : List ℕ) (x : ℕ) → In x seen → note seen x ≡ seen
unfolding note
note_old seen x h = rw h refl

pub note_new : (seen : List ℕ) (x : ℕ) → member x seen ≡ false → note seen x ≡ seen ++ (x ∷ [])
unfolding note
note_new seen x h = rw h refl

pub in_note : (seen : List ℕ) (x : ℕ) → In x (note seen x)
in_note seen x =
    ⊎_elim
    (λ h. ap (member x) (note_old seen x h) ∙ h)
    (λ n. ap (member x) (note_new seen x n) ∙ in_append_right x seen (x ∷ []) (in_head x []))
    (in_or_not x seen)

pub member_note : (y : ℕ) (seen : List ℕ) (x : ℕ) → member y (note seen x) ≡ (member y seen || eqb y x)
unfolding member
member_note y seen x =
    ⊎_elim
    (λ h. ap (member y) (note_old seen x h)
    ∙ ⊎_elim
    (λ e. ap (λ (z : ℕ). member z seen) e.0 ∙ h ∙ sym (or_right (member y seen) (eqb y x) e.1))
    (λ n. sym (or-false (member y seen)) ∙ ap (λ (t : Bool). member y seen || t) (sym n.1))
    (same? y x))
    (λ n. ap (member y) (note_new seen x n) ∙ member_append y seen (x ∷ []) ∙ ap (λ (t : Bool). member y seen || t) (or-false (eqb y x)))
    (in_or_not x seen)

pub member_grow : (y : ℕ) (seen l : List ℕ) → member y (grow seen l) ≡ (member y seen || member y l)
unfolding grow member
member_grow y seen [] = sym (or-false (member y seen))
member_grow y seen (x ∷ l) =
    member_grow y (note seen x) l
    ∙ ap (λ (t : Bool). t || member y l) (member_note y seen x)
    ∙ or_assoc (member y seen) (eqb y x) (member y l)

-- the same numbers
pub member_dedup : (y : ℕ) (l : List ℕ) → member y (dedup l) ≡ member y l
unfolding dedup member
member_dedup y l = member_grow y [] l

-- noted in two parts, and one more
pub grow_append : (seen l m : List ℕ) → grow seen (l ++ m) ≡ grow (grow seen l) m
unfolding grow
grow_append seen [] m = refl
grow_append seen (x ∷ l) m = grow_append (note seen x) l m

pub dedup_append : (l m : List ℕ) → dedup (l ++ m) ≡ grow (dedup l) m
unfolding dedup
dedup_append l m = grow_append [] l m

pub dedup_snoc : (l : List ℕ) (x : ℕ) → dedup (l ++ (x ∷ [])) ≡ note (dedup l) x
unfolding grow
dedup_snoc l x = dedup_append l (x ∷ [])

-- what is noted stays where it is
pub note_extends : (seen : List ℕ) (x : ℕ) → (r : List ℕ) × (note seen x ≡ seen ++ r)
note_extends seen x =
    ⊎_elim
    (λ h. ([], note_old seen x h ∙ sym (append-nil seen)))
    (λ n. ((x ∷ []), note_new seen x n))
    (in_or_not x seen)

pub grow_extends : (seen l : List ℕ) → (r : List ℕ) × (grow seen l ≡ seen ++ r)
unfolding grow
grow_extends seen [] = ([], sym (append-nil seen))
grow_extends seen (x ∷ l) =
    let n = note_extends seen x in
    let g = grow_extends (note seen x) l in
    (n.0 ++ g.0, g.1 ∙ ap (λ (s : List ℕ). s ++ g.0) n.1 ∙ append_assoc seen n.0 g.0)

pub index_of_grow : (x : ℕ) (seen l : List ℕ) → In x seen → index_of x (grow seen l) ≡ index_of x seen
index_of_grow x seen l h = let g = grow_extends seen l in ap (index_of x) g.1 ∙ index_of_append x seen g.0 h

pub at_grow : (seen l : List ℕ) (v d : ℕ) → v < length seen → get_or (grow seen l) v d ≡ get_or seen v d
at_grow seen l v d h =
    let g = grow_extends seen l in
    ap (λ (s : List ℕ). get_or s v d) g.1 ∙ get_or-append seen g.0 d v h

pub length_grow : (seen l : List ℕ) → length seen ≤ length (grow seen l)
length_grow seen l = let g = grow_extends seen l in omega (arith, ap length g.1, length-append seen g.0)

-- ---- nothing repeats

no_repeat_snoc : (l : List ℕ) (x : ℕ) → NoRepeat l → member x l ≡ false → NoRepeat (l ++ (x ∷ []))
no_repeat_snoc l x u n i j hi hj e = by_cases (dec_lt i (length l)) (dec_lt j (length l))
  where
    len : length (l ++ (x ∷ [])) ≡ suc (length l)
    len = omega (arith, length-append l (x ∷ []))

    old : (k : ℕ) → k < length l → get_or (l ++ (x ∷ [])) k 0 ≡ get_or l k 0
    old k h = get_or-append l (x ∷ []) 0 k h

    last : (k : ℕ) → k < length (l ++ (x ∷ [])) → ¬ (k < length l) → k ≡ length l
    last k h g = omega (arith, len)

    new : (k : ℕ) → k ≡ length l → get_or (l ++ (x ∷ [])) k 0 ≡ x
    new k h = ap (λ (m : ℕ). get_or (l ++ (x ∷ [])) m 0) h ∙ get_or-append_seam l x [] 0

    clash : (k : ℕ) → k < length l → get_or l k 0 ≡ x → ⊥
    clash k h p = true≢false (sym (in_at l 0 k h) ∙ ap (λ (y : ℕ). member y l) p ∙ n)

    by_cases : Dec (i < length l) → Dec (j < length l) → i ≡ j
    by_cases (yes p) (yes q) = u i j p q (sym (old i p) ∙ e ∙ old j q)
    by_cases (yes p) (no q) = absurd (clash i p (sym (old i p) ∙ e ∙ new j (last j hj q)))
    by_cases (no p) (yes q) = absurd (clash j q (sym (old j q) ∙ sym e ∙ new i (last i hi p)))
    by_cases (no p) (no q) = last i hi p ∙ sym (last j hj q)

pub no_repeat_note : (seen : List ℕ) (x : ℕ) → NoRepeat seen → NoRepeat (note seen x)
no_repeat_note seen x u =
    ⊎_elim
    (λ h. subst NoRepeat (sym (note_old seen x h)) u)
    (λ n. subst NoRepeat (sym (note_new seen x n)) (no_repeat_snoc seen x u n))
    (in_or_not x seen)

pub no_repeat_grow : (seen l : List ℕ) → NoRepeat seen → NoRepeat (grow seen l)
unfolding grow
no_repeat_grow seen [] u = u
no_repeat_grow seen (x ∷ l) u = no_repeat_grow (note seen x) l (no_repeat_note seen x u)

pub no_repeat_dedup : (l : List ℕ) → NoRepeat (dedup l)
unfolding dedup
no_repeat_dedup l = no_repeat_grow [] l (λ i j hi hj e. absurd (omega arith))

-- ---- the lent table

pub slot_in : (seen : List ℕ) (e : ℕ) → In e seen → slot seen e ≡ suc (index_of e seen)
unfolding slot
slot_in seen e h = rw h refl

pub slot_out : (seen : List ℕ) (e : ℕ) → member e seen ≡ false → slot seen e ≡ 0
unfolding slot
slot_out seen e h = rw h refl

pub slot_nil : (e : ℕ) → slot [] e ≡ 0
unfolding member
slot_nil e = slot_out [] e refl

-- the table tells whether a number is noted
pub in_of_slot : (seen : List ℕ) (e : ℕ) → slot seen e ≢ 0 → In e seen
in_of_slot seen e h = ⊎_elim (λ m. m) (λ n. absurd (h (slot_out seen e n))) (in_or_not e seen)

pub out_of_slot : (seen : List ℕ) (e : ℕ) → slot seen e ≡ 0 → member e seen ≡ false
out_of_slot seen e h = ⊎_elim (λ m. absurd (omega (arith, slot_in seen e m))) (λ n. n) (in_or_not e seen)

-- the table after x is noted: x has the number `length seen`, if it is new, and nothing else changes
pub slot_note_new : (seen : List ℕ) (x : ℕ) → member x seen ≡ false → slot (note seen x) x ≡ suc (length seen)
slot_note_new seen x n =
    slot_in (note seen x) x (in_note seen x) ∙ ap suc (ap (index_of x) (note_new seen x n) ∙ index_of_new x seen [] n)

pub slot_note_other : (seen : List ℕ) (x e : ℕ) → e ≢ x → slot (note seen x) e ≡ slot seen e
slot_note_other seen x e d =
    ⊎_elim
    (λ h. slot_in (note seen x) e (m ∙ h)
    ∙ ap suc (let n = note_extends seen x in ap (index_of e) n.1 ∙ index_of_append e seen n.0 h)
    ∙ sym (slot_in seen e h))
    (λ n. slot_out (note seen x) e (m ∙ n) ∙ sym (slot_out seen e n))
    (in_or_not e seen)
  where
    m : member e (note seen x) ≡ member e seen
    m = member_note e seen x ∙ ap (λ (t : Bool). member e seen || t) (ne_eqb e x d) ∙ or-false (member e seen)

pub length_note_new : (seen : List ℕ) (x : ℕ) → member x seen ≡ false → length (note seen x) ≡ suc (length seen)
length_note_new seen x n = ap length (note_new seen x n) ∙ omega (arith, length-append seen (x ∷ []))

-- ---- what holds of each number of a list, by membership

pub in_all : (P : ℕ → Type 0) (l : List ℕ) → ((x : ℕ) → In x l → P x) → All P l
in_all P [] h = tt
in_all P (y ∷ l) h = (h y (in_head y l), in_all P l (λ x m. h x (in_tail x y l m)))

pub all_in : (P : ℕ → Type 0) (l : List ℕ) → All P l → (x : ℕ) → In x l → P x
all_in P [] a x h = absurd (not_in_nil x h)
all_in P (y ∷ l) a x h = ⊎_elim (λ e. subst P (sym e) a.0) (λ m. all_in P l a.1 x m) (in_cases x y l h)

pub in_map : (g : ℕ → ℕ) (x : ℕ) (l : List ℕ) → In x l → In (g x) (map g l)
in_map g x [] h = absurd (not_in_nil x h)
in_map g x (y ∷ l) h =
    ⊎_elim
    (λ e. ap (λ (z : ℕ). member (g z) (map g (y ∷ l))) e ∙ in_head (g y) (map g l))
    (λ m. in_tail (g x) (g y) (map g l) (in_map g x l m))
    (in_cases x y l h)

pub map_in : (g : ℕ → ℕ) (z : ℕ) (l : List ℕ) → In z (map g l) → (x : ℕ) × In x l × (z ≡ g x)
map_in g z [] h = absurd (not_in_nil z h)
map_in g z (y ∷ l) h =
    ⊎_elim
    (λ e. (y, in_head y l, e))
    (λ m. let r = map_in g z l m in (r.0, in_tail r.0 y l r.1, r.2))
    (in_cases z (g y) (map g l) h)

pub in_append_cases : (x : ℕ) (l m : List ℕ) → In x (l ++ m) → In x l ⊎ In x m
in_append_cases x [] m h = inr h
in_append_cases x (y ∷ l) m h =
    ⊎_elim
    (λ e. inl (ap (λ (z : ℕ). member z (y ∷ l)) e ∙ in_head y l))
    (λ k. ⊎_elim (λ p. inl (in_tail x y l p)) (λ q. inr q) (in_append_cases x l m k))
    (in_cases x y (l ++ m) h)

-- ---- a list whose numbers are renamed one to one keeps its order of first use

note_map : (g : ℕ → ℕ) (seen : List ℕ) (x : ℕ) → ((y : ℕ) → In y seen → g y ≡ g x → y ≡ x) → note (map g seen) (g x) ≡ map g (note seen x)
note_map g seen x inj =
    ⊎_elim
    (λ h. note_old (map g seen) (g x) (in_map g x seen h) ∙ sym (ap (map g) (note_old seen x h)))
    (λ n. note_new (map g seen) (g x) (new n) ∙ sym (ap (map g) (note_new seen x n) ∙ map-append g seen (x ∷ [])))
    (in_or_not x seen)
  where
    new : member x seen ≡ false → member (g x) (map g seen) ≡ false
    new n =
        ⊎_elim
        (λ h. let m = map_in g (g x) seen h in
        absurd (true≢false (sym m.1 ∙ ap (λ (z : ℕ). member z seen) (inj m.0 m.1 (sym m.2)) ∙ n)))
        (λ f. f)
        (in_or_not (g x) (map g seen))

pub grow_map : (g : ℕ → ℕ) (seen l : List ℕ) → Injective g (seen ++ l) → grow (map g seen) (map g l) ≡ map g (grow seen l)
unfolding grow member
grow_map g seen [] inj = refl
grow_map g seen (x ∷ l) inj =
    ap (λ (s : List ℕ). grow s (map g l))
    (note_map g seen x (λ y h e. inj y x (in_append_left y seen (x ∷ l) h) (in_append_right x seen (x ∷ l) (in_head x l)) e))
    ∙ grow_map g (note seen x) l (λ u v hu hv e. inj u v (back u hu) (back v hv) e)
  where
    back : (u : ℕ) → In u (note seen x ++ l) → In u (seen ++ (x ∷ l))
    back u h =
        member_append u seen (x ∷ l)
        ∙ sym (or_assoc (member u seen) (eqb u x) (member u l))
        ∙ ap (λ (t : Bool). t || member u l) (sym (member_note u seen x))
        ∙ sym (member_append u (note seen x) l)
        ∙ h

pub dedup_map : (g : ℕ → ℕ) (l : List ℕ) → Injective g l → dedup (map g l) ≡ map g (dedup l)
unfolding dedup
dedup_map g l inj = grow_map g [] l inj

-- ---- 0, 1 .. n - 1

pub length_upto : (n : ℕ) → length (upto n) ≡ n
unfolding upto
length_upto zero = refl
length_upto (suc n) = omega (arith, length-append (upto n) (n ∷ []), length_upto n)

pub at_upto : (n i d : ℕ) → i < n → get_or (upto n) i d ≡ i
unfolding upto
at_upto zero i d h = absurd (omega arith)
at_upto (suc n) i d h = by_cases (at_upto n i d) (dec_lt i n)
  where
    by_cases : (i < n → get_or (upto n) i d ≡ i) → Dec (i < n) → get_or (upto n ++ (n ∷ [])) i d ≡ i
    by_cases below (yes p) = get_or-append (upto n) (n ∷ []) d i (omega (arith, length_upto n)) ∙ below p
    by_cases below (no p) =
        let e : i ≡ n = omega arith in
        get_or_at (upto n) n [] d i (length_upto n ∙ sym e) ∙ sym e

pub map_index_of : (l : List ℕ) → NoRepeat l → map (λ e. index_of e l) l ≡ upto (length l)
map_index_of l u =
    ext_get_or 0 (map (λ e. index_of e l) l) (upto (length l))
    (length-map l (λ e. index_of e l) ∙ sym (length_upto (length l)))
    (λ i h.
    let b : i < length l = omega (arith, length-map l (λ e. index_of e l)) in
    at_map (λ e. index_of e l) l i 0 0 b ∙ index_of_at l u i b ∙ sym (at_upto (length l) i 0 b))

-- the place of a number, renamed

pub index_of_map : (g : ℕ → ℕ) (x : ℕ) (l : List ℕ) → ((y : ℕ) → In y l → g y ≡ g x → y ≡ x) → index_of (g x) (map g l) ≡ index_of x l
unfolding index_of
index_of_map g x [] inj = refl
index_of_map g x (y ∷ l) inj =
    ap₂ (λ (t : Bool) (n : ℕ). cond t 0 (suc n))
    (eqb_map g x y (λ e. sym (inj y (in_head y l) (sym e))))
    (index_of_map g x l (λ z m e. inj z (in_tail z y l m) e))
