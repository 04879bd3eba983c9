-- One usable point more gives at most one gap more, put in its place: the loop's turn (`gathered_used`), and the element of rank length/2 at the end. By
-- lists with one element more. Assumes nothing.
use mathlib.Core.Path.{◌≡◌, refl, sym, ap, ◌∙◌}
use mathlib.Core.Bool.{Bool, true, false, cond}
use mathlib.Core.List.{List, [], ◌∷◌, ◌++◌, append_assoc, append-nil}
use Prim.Native.Nat.{ℕ, zero, suc, ◌+◌, ◌/◌, ◌%◌, ◌≤◌, ◌<◌}
use native.Mathlib.Nat.{add-zero, zero-add}
use native.Mathlib.Omega.{arith}
use lib.Dec.{eqb}
use Rattle.std.specs.Prelude.{Option, Some, None}
use lib.ListN.{length, get_or, take, length-append}
use lib.Seq.{append_snoc, get_or-take}
use lib.Ieee.{Float, nan, lt}
use Rattle.lists.specs.Lists.{zero32}
use Rattle.lists.specs.Laws.Fold.{fold_snoc}
use Rattle.lists.specs.EveryNth.{every_from}
use Rattle.points.specs.declared.point.Point.{Point}
use Rattle.points.specs.Points.{given, points_of, usable_of, usable_among, usables}
use Rattle.search.specs.Search.{inserted, sorted}
use Rattle.search.specs.Spacing.{gap_at, listed, gaps_among, gaps_by, median_of}
use Rattle.search.specs.Words.{put_gap, size_of, gap_by}
use Rattle.points.specs.Laws.UsableLoop.{among_snoc, count_le}
use Rattle.points.specs.Laws.AllPoints.{length_points, usables_are, among_le}

-- ---- one point more

every_snoc : (s i : ℕ) (l : List Point) (p : Point) → every_from s i (l ++ (p ∷ [])) ≡ cond (eqb ((i + length l) % s) 0) (every_from s i l ++ (p ∷ [])) (every_from s i l)
every_snoc s i [] p = rw (add-zero i) (go (eqb (i % s) 0))
  where
    go : (b : Bool) → cond b (p ∷ []) [] ≡ cond b ([] ++ (p ∷ [])) []
    go true = refl
    go false = refl
every_snoc s i (x ∷ l) p =
    let n : suc i + length l ≡ i + suc (length l) = omega arith in
    rw (every_snoc s (suc i) l p, n) (go (eqb (i % s) 0) (eqb ((i + suc (length l)) % s) 0) (every_from s (suc i) l))
  where
    go : (a b : Bool) (r : List Point) → cond a (x ∷ cond b (r ++ (p ∷ [])) r) (cond b (r ++ (p ∷ [])) r) ≡ cond b (cond a (x ∷ r) r ++ (p ∷ [])) (cond a (x ∷ r) r)
    go true true r = refl
    go true false r = refl
    go false true r = refl
    go false false r = refl

gaps_snoc_among : (ps l : List Point) (p : Point) → gaps_among ps (l ++ (p ∷ [])) ≡ gaps_among ps l ++ listed (gap_at ps p)
unfolding gaps_among
gaps_snoc_among ps [] p = append-nil (listed (gap_at ps p))
gaps_snoc_among ps (x ∷ l) p = rw (gaps_snoc_among ps l p) (sym (append_assoc (listed (gap_at ps x)) (gaps_among ps l) (listed (gap_at ps p))))

gaps_snoc : (s : ℕ) (ps l : List Point) (p : Point) → gaps_by s ps (l ++ (p ∷ [])) ≡ gaps_by s ps l ++ listed (gap_by s (length l) ps p)
gaps_snoc s ps l p = rw (every_snoc s 0 l p, zero-add (length l)) (go (eqb (length l % s) 0))
  where
    go : (b : Bool) → gaps_among ps (cond b (every_from s 0 l ++ (p ∷ [])) (every_from s 0 l)) ≡ gaps_by s ps l ++ listed (cond b (gap_at ps p) None)
    go true = gaps_snoc_among ps (every_from s 0 l) p
    go false = sym (append-nil (gaps_by s ps l))

-- ---- one gap more

put_sorted : (l : List Float) (g : Option Float) → sorted lt (l ++ listed g) ≡ put_gap (sorted lt l) g
unfolding sorted
put_sorted l None = ap (sorted lt) (append-nil l)
put_sorted l (Some d) = fold_snoc (inserted lt) [] l d

size_more : (l : List Float) (g : Option Float) → length (l ++ listed g) ≡ length l + size_of g
size_more l None = length-append l []
size_more l (Some d) = length-append l (d ∷ [])

size_small : (g : Option Float) → size_of g ≤ 1
size_small None = omega arith
size_small (Some d) = omega arith

-- ---- the loop: the first m numbers of the list are the gaps of the usable ones among the points that were given, ascending

pub record Gathered (s : ℕ) (xs list₀ list : List Float) (m seen : ℕ) (past left : List Point) : Type 0 where
  pub front : take m list ≡ sorted lt (gaps_by s (usables xs) (usable_among past))
  pub size : m ≡ length (gaps_by s (usables xs) (usable_among past))
  pub count : seen ≡ length (usable_among past)
  pub few : m ≤ seen
  pub same : length list ≡ length list₀
  pub all : points_of xs ≡ past ++ left

pub gathered_none : {s : ℕ} {xs list : List Float} {left : List Point} → left ≡ points_of xs → Gathered s xs list list 0 0 [] left
unfolding sorted gaps_among usable_among
gathered_none e = record { front = refl; size = refl; count = refl; few = omega arith; same = refl; all = sym e }

module _ {s : ℕ} {xs list₀ list : List Float} {m seen : ℕ} {past left left' : List Point} {p : Point} (w : Gathered s xs list₀ list m seen past left) (next : left ≡ p ∷ left') where
  -- one point more has been given
  on : points_of xs ≡ (past ++ (p ∷ [])) ++ left'
  on = w.all ∙ rw (next, append_snoc past p)

  -- so fewer were seen before than the slice has
  pub seen_few : seen < given xs
  seen_few = omega (arith, w.count, among_le past, length_points xs, ap length w.all, length-append past left, ap length next)

  module _ {b : Bool} (test : b ≡ usable_of p) where
    pub gathered_used : {list' : List Float} {m' : ℕ} → b ≡ true → m' ≡ m + size_of (gap_by s seen (usables xs) p)
        → take m' list' ≡ put_gap (take m list) (gap_by s seen (usables xs) p) → length list' ≡ length list → Gathered s xs list₀ list' m' (seen + 1) (past ++ (p ∷ [])) left'
    gathered_used {list'} {m'} t hm hl hs =
        let ps = usables xs in
        let g = gap_by s seen ps p in
        let l = usable_among past in
        let more : usable_among (past ++ (p ∷ [])) ≡ l ++ (p ∷ []) = among_snoc past p ∙ rw (sym test ∙ t) in
        record {
          front = rw (more, gaps_snoc s ps l p, ← w.count, put_sorted (gaps_by s ps l) g, ← w.front) hl;
          size = rw (more, gaps_snoc s ps l p, ← w.count, size_more (gaps_by s ps l) g, ← w.size) hm;
          count = rw more (omega (arith, w.count, length-append l (p ∷ [])));
          few = omega (arith, size_small g, w.few);
          same = hs ∙ w.same;
          all = on;
        }

    pub gathered_skipped : b ≡ false → Gathered s xs list₀ list m seen (past ++ (p ∷ [])) left'
    gathered_skipped t =
        let more : usable_among (past ++ (p ∷ [])) ≡ usable_among past = among_snoc past p ∙ rw (sym test ∙ t) in
        record { front = rw more w.front; size = rw more w.size; count = rw more w.count; few = w.few; same = w.same; all = on }

-- all have been given
pub gathered_all : {s : ℕ} {xs list₀ list : List Float} {m seen : ℕ} {past left : List Point} → Gathered s xs list₀ list m seen past left → left ≡ []
    → (m ≡ length (gaps_by s (usables xs) (usables xs))) × (m ≤ given xs) × (take m list ≡ sorted lt (gaps_by s (usables xs) (usables xs)))
gathered_all {s} {xs} {past = past} w e =
    let whole : usable_among past ≡ usables xs = ap usable_among (sym (append-nil past) ∙ ap (λ (l : List Point). past ++ l) (sym e) ∙ sym w.all) ∙ usables_are xs in
    let few : length (usables xs) ≤ given xs = count_le xs (given xs) in
    (w.size ∙ ap (λ (l : List Point). length (gaps_by s (usables xs) l)) whole, omega (arith, w.few, w.count, ap length whole, few), w.front ∙ ap (λ (l : List Point). sorted lt (gaps_by s (usables xs) l)) whole)

-- ---- the median

any_default : (l : List Float) (k : ℕ) (a b : Float) → k < length l → get_or l k a ≡ get_or l k b
any_default [] k a b h = absurd (omega arith)
any_default (x ∷ l) zero a b h = refl
any_default (x ∷ l) (suc k) a b h = any_default l k a b (omega arith)

module _ (l list : List Float) (m : ℕ) (size : m ≡ length l) (front : take m list ≡ sorted lt l) where
  pub median_some : 0 < m → m ≤ length list → get_or list (m / 2) nan ≡ median_of l
  unfolding median_of
  median_some pos room =
      let h : m / 2 < m = omega arith in
      let k : m / 2 < length list = omega arith in
      rw (← front, ← size, get_or-take m list (m / 2) zero32 h) (any_default list (m / 2) nan zero32 k)

  pub median_none : m ≤ 0 → zero32 ≡ median_of l
  unfolding median_of
  median_none none = let z : m ≡ 0 = omega arith in rw (← front, z)
