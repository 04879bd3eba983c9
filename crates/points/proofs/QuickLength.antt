-- A square strictly between 1e-24 and 1e30 has a usable length for its root: `quick`. For the root keeps order, and the roots of those two are 1e-12's
-- f32 exactly and a finite number. Assumes nothing.
use mathlib.Core.Path.{◌≡◌, refl, subst}
use Rattle.std.specs.Prelude.{is_ok}
use mathlib.Core.Bool.{true, false, false≢true}
use lib.Dec.{T}
use lib.IntN.{pos}
use lib.Ieee.{Float, nan, inf, fin, binary32, round, of_bits, lt, le, is_nan}
use lib.Ieee.Scale.{finite}
use Rattle.numbers.specs.Constants.{trillionth32}
use Rattle.numbers.specs.Arithmetic.{rooted}
use Rattle.numbers.proofs.Laws.RootOrder.{rooted_mono}
use Rattle.numbers.proofs.Laws.SumOfSquares.{lt_le, le_not, not_negative}
use Rattle.numbers.specs.Laws.SumOfSquares.{Square, none, far, some}
use Rattle.numbers.proofs.Laws.RootSquares.{root_held}
use Rattle.numbers.specs.Laws.RootSquares.{HeldSquare}
use Rattle.points.specs.Points.{length_usability}

-- ---- the two bounds, 1e-24 and 1e30 as the code's literals stand in a goal, and their roots

abbrev low24 : Float
low24 = of_bits binary32 0x179A_BE15

abbrev high30 : Float
high30 = of_bits binary32 0x7149_F2CA

abbrev high15 : Float
high15 = of_bits binary32 0x5863_5FA9

low_root : rooted binary32 low24 ≡ trillionth32
unfolding of_bits rooted round
low_root = refl

high_root : rooted binary32 high30 ≡ high15
unfolding of_bits rooted
high_root = refl

low_positive : T (le (fin false 0 (pos 0)) low24)
unfolding of_bits le
low_positive = tt

bound_square : Square trillionth32
unfolding round
bound_square = some

-- ---- what lies between

finite_under : (x : Float) → Square x → T (le x high15) → finite x ≡ true
unfolding of_bits le
finite_under nan none t = absurd t
finite_under (inf false) far t = absurd t
finite_under (fin false m e) some t = refl
finite_under (inf true) s t = elim s [ ]
finite_under (fin true m e) s t = elim s [ ]

above_number : (y x : Float) → lt y x ≡ true → is_nan x ≡ false
unfolding lt is_nan
above_number nan x t = absurd (false≢true t)
above_number (inf s) nan t = absurd (false≢true t)
above_number (fin s m e) nan t = absurd (false≢true t)
above_number (inf s) (inf r) t = refl
above_number (inf s) (fin r n d) t = refl
above_number (fin s m e) (inf r) t = refl
above_number (fin s m e) (fin r n d) t = refl

pub quick : (q : Float) → HeldSquare binary32 q → lt low24 q ≡ true → lt q high30 ≡ true → true ≡ is_ok (length_usability (rooted binary32 q))
unfolding length_usability
quick q g a b =
    let k = (root_held binary32 q g).kind in
    let low : T (le trillionth32 (rooted binary32 q)) = subst (λ (v : Float). T (le v (rooted binary32 q))) low_root (rooted_mono binary32 low24 q low_positive (lt_le low24 q a)) in
    let high : T (le (rooted binary32 q) high15) = subst (λ (v : Float). T (le (rooted binary32 q) v)) high_root (rooted_mono binary32 q high30 (not_negative q g.kind (above_number low24 q a)) (lt_le q high30 b)) in
    rw (finite_under (rooted binary32 q) k high, le_not trillionth32 (rooted binary32 q) bound_square k low)
