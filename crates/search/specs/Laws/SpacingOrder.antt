-- The spacing's two lists are ascending, whatever the points: the distances of a query in the order `before` (`distances_ascend`), the gaps in the order
-- `lt` (`gaps_ascend`). So the median of the gaps is the one of rank length/2 (`median_gap`). For a distance is NaN or has a plus sign, infinity too; and
-- a gap is above zero, which NaN is not. No function's proof needs this: it says that the definitions are right. Assumes nothing.
use Rattle.std.specs.Prelude.{Option, Some, None, ◌≡◌, Bool, cond, not, ◌&&◌, ◌||◌, List, [], ◌∷◌, ◌++◌, map, ℕ, ◌/◌, ◌<◌, length, Float}
use Rattle.std.proofs.Math.Path.{refl}
use Rattle.std.proofs.Common.{sym, ◌∙◌, true≢false, arith}
use Rattle.std.proofs.Math.Bool.{true, false}
use Rattle.std.proofs.lemmas.Bool.{false≢true}
use Rattle.std.specs.Float.{nan, inf, fin, binary32}
use Rattle.std.specs.Float.Ieee.{of_bits, lt, is_nan}
use Rattle.numbers.proofs.Laws.SumOfSquares.{lt_le, not_below, le_not, le_trans}
use Rattle.numbers.specs.Laws.SumOfSquares.{Square, far, some}
use Rattle.numbers.proofs.Laws.RootSquares.{root_held}
use Rattle.lists.specs.Lists.{zero32}
use Rattle.lists.specs.EveryNth.{every_from}
use Rattle.points.specs.declared.point.Point.{Point}
use Rattle.points.specs.Laws.SquaresHeld.{squares_held}
use Rattle.search.specs.declared.brute.Least.{Least}
use Rattle.search.specs.declared.brute.Least.TheVariants.{Empty, One, Two}
use Rattle.search.specs.Search.{square_of, distance_of, before, sorted, nearest_of}
use Rattle.search.specs.Spacing.{positive_or, first_positive, gap_at, listed, gaps_among, gaps_by, median_of}
use Rattle.search.specs.Laws.Ascending.{Each, Ascends, Order, ascends, Ranked, rank}

-- ---- `before` is an order of the distances, NaN and infinity among them

-- what it says of two: the second is NaN, or both are numbers and the first is at most the second
or_split : (x y : Bool) → x || y ≡ false → (x ≡ false) × (y ≡ false)
or_split true y h = absurd (true≢false h)
or_split false y h = (refl, h)

last_nan : (a d : Float) → is_nan d ≡ true → before d a ≡ false
last_nan a d h = go d h
  where
    go : (d : Float) → is_nan d ≡ true → before d a ≡ false
    go nan h = unfold lt is_nan in both (is_nan a)
      where
        both : (b : Bool) → b && false ≡ false
        both true = refl
        both false = refl
    go (inf s) h = absurd (false≢true (unfold is_nan in h))
    go (fin s m e) h = absurd (false≢true (unfold is_nan in h))

number_first : (a d : Float) → is_nan d ≡ false → before d a ≡ false → (is_nan a ≡ false) × (lt d a ≡ false)
number_first a d n h = let t = or_split (lt d a) (is_nan a && not (is_nan d)) h in (go (is_nan a) (rw n at t.1), t.0)
  where
    go : (b : Bool) → b && true ≡ false → b ≡ false
    go true e = absurd (true≢false e)
    go false e = refl

by_less : (a d : Float) → is_nan a ≡ false → lt d a ≡ false → before d a ≡ false
by_less a d n h = rw (n, h)

before_order : Order Square before
before_order =
    record {
      one_way = λ a d p q h. one_way a d p q h (is_nan a) refl;
      onward = λ a b c p q r h k. onward a b c p q r h k (is_nan c) refl;
    }
  where
    one_way : (a d : Float) → Square a → Square d → before d a ≡ true → (n : Bool) → is_nan a ≡ n → before a d ≡ false
    one_way a d p q h true n = last_nan d a n
    one_way a d p q h false n = go (lt d a) refl
      where
        go : (b : Bool) → lt d a ≡ b → before a d ≡ false
        go true e = by_less d a (left d a e) (le_not d a q p (lt_le d a e))
          where
            left : (d a : Float) → lt d a ≡ true → is_nan d ≡ false
            left nan a e = absurd (false≢true (unfold lt in e))
            left (inf s) a e = unfold is_nan in refl
            left (fin s m x) a e = unfold is_nan in refl
        go false e = absurd (false≢true (sym (by_less a d n e) ∙ h))

    onward : (a b c : Float) → Square a → Square b → Square c → before b a ≡ false → before c b ≡ false → (n : Bool) → is_nan c ≡ n → before c a ≡ false
    onward a b c p q r h k true n = last_nan a c n
    onward a b c p q r h k false n =
        let cb = number_first b c n k in
        let ba = number_first a b cb.0 h in
        by_less a c ba.0 (le_not a c p r (le_trans a b c p q r (not_below b a q p cb.0 ba.0 ba.1) (not_below c b r q n cb.0 cb.1)))

distances : (q : List Float) (ps : List Point) → Each Square (map (distance_of q) ps)
distances q [] = tt
distances q (p ∷ ps) = ((root_held binary32 (square_of q p) (unfold square_of in squares_held _ _ _)).kind, distances q ps)

pub distances_ascend : (q : List Float) (ps : List Point) → Ascends before (sorted before (map (distance_of q) ps))
distances_ascend q ps = ascends Square before before_order (map (distance_of q) ps) (distances q ps)

-- ---- `lt` is one of the gaps, which are numbers above zero

record Above (x : Float) : Type 0 where
  kind : Square x
  number : is_nan x ≡ false

above : (d : Float) → lt zero32 d ≡ true → Above d
unfolding lt of_bits is_nan
above nan h = absurd (false≢true h)
above (inf true) h = absurd (false≢true h)
above (inf false) h = record { kind = far; number = refl }
above (fin true m e) h = absurd (false≢true h)
above (fin false m e) h = record { kind = some; number = refl }

less_order : Order Above lt
less_order =
    record {
      one_way = λ a d p q h. le_not d a q.kind p.kind (lt_le d a h);
      onward = λ a b c p q r h k.
          let ab = not_below b a q.kind p.kind q.number p.number h in
          let bc = not_below c b r.kind q.kind r.number q.number k in
          le_not a c p.kind r.kind (le_trans a b c p.kind q.kind r.kind ab bc);
    }

positive : (d : Float) (g : Option Float) → Each Above (listed g) → Each Above (listed (positive_or d g))
positive d g u = go (lt zero32 d) refl
  where
    go : (b : Bool) → lt zero32 d ≡ b → Each Above (listed (cond b (Some d) g))
    go true e = (above d e, tt)
    go false e = u

first_positive_lem : (l : Least) → Each Above (listed (first_positive l))
first_positive_lem Empty = tt
first_positive_lem (One a) = positive a None tt
first_positive_lem (Two a b) = positive a (positive_or b None) (positive b None tt)

both : (a b : List Float) → Each Above a → Each Above b → Each Above (a ++ b)
both [] b p q = q
both (x ∷ a) b p q = (p.0, both a b p.1 q)

gaps_above : (ps l : List Point) → Each Above (gaps_among ps l)
unfolding gaps_among gap_at
gaps_above ps [] = tt
gaps_above ps (p ∷ l) = both (listed (gap_at ps p)) (gaps_among ps l) (first_positive_lem (nearest_of ps p.at)) (gaps_above ps l)

-- ---- so the median is the gap of rank length/2

module _ (s : ℕ) (ps l : List Point) where
  pub gaps_ascend : Ascends lt (sorted lt (gaps_by s ps l))
  gaps_ascend = ascends Above lt less_order (gaps_by s ps l) (gaps_above ps (every_from s 0 l))

  pub median_gap : 0 < length (gaps_by s ps l) → Ranked lt (gaps_by s ps l) (length (gaps_by s ps l) / 2) (median_of (gaps_by s ps l))
  unfolding median_of
  median_gap some-gap = rank Above lt less_order (gaps_by s ps l) (length (gaps_by s ps l) / 2) zero32 (gaps_above ps (every_from s 0 l)) (omega arith)

-- without a gap it is 0
pub no_median : median_of [] ≡ zero32
unfolding median_of sorted
no_median = refl
