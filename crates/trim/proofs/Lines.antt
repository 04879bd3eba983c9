-- Three lists taken as one: what is stored at a place of the one is stored in the first, the second or the third. Three slices that are the same after one
-- step and after the next are the same after both. Assumes nothing.
use mathlib.Core.Path.{◌≡◌, refl, sym, ap, ◌∙◌}
use mathlib.Core.List.{List, ◌++◌}
use Prim.Native.Nat.{ℕ, ◌+◌, ◌-◌, ◌*◌, ◌≤◌, ◌<◌}
use native.Mathlib.Omega.{arith}
use lib.ListN.{length, set, length-append}
use lib.Ieee.{Float}
use Rattle.std.proofs.lemmas.List.{set-append_left, set-append_right}
use Rattle.trim.specs.declared.moving.Lines.{Lines}
use Rattle.trim.specs.Words.{lines, Even, whole, EvenLines, SameLines}

pub length_lines : (a b c : List Float) → Even a b c → length (lines a b c) ≡ 3 * length a
length_lines a b c even = omega (arith, length-append (a ++ b) c, length-append a b, even.second, even.third)

module _ (a b c : List Float) (even : Even a b c) (w : ℕ) where
  two : length (a ++ b) ≡ length a + length a
  two = length-append a b ∙ ap (λ (n : ℕ). length a + n) even.second

  pub put_first : (x : Float) → w < length a → lines (set a w x) b c ≡ set (lines a b c) w x
  put_first x h = sym (set-append_left (a ++ b) c w x (omega (arith, two)) ∙ ap (λ (l : List Float). l ++ c) (set-append_left a b w x h))

  pub put_second : (x : Float) → length a ≤ w → w - length a < length a → lines a (set b (w - length a) x) c ≡ set (lines a b c) w x
  put_second x h k = sym (set-append_left (a ++ b) c w x (omega (arith, two)) ∙ ap (λ (l : List Float). l ++ c) (set-append_right a b (length a) w x refl h))

  pub put_third : (x : Float) → length a ≤ w → length a ≤ w - length a → lines a b (set c (w - length a - length a) x) ≡ set (lines a b c) w x
  put_third x h k =
      let e : w - (length a + length a) ≡ w - length a - length a = omega arith in
      sym (set-append_right (a ++ b) c (length a + length a) w x two (omega arith) ∙ ap (λ (n : ℕ). a ++ b ++ set c n x) e)

-- ---- the three slices after a step

pub same_yet : (l : Lines) → SameLines l l
same_yet l = record { same = refl; long_a = refl; long_b = refl; long_c = refl }

pub then_same : {l m n : Lines} → SameLines l m → SameLines m n → SameLines l n
then_same {l} {m} {n} p q =
    record {
      same =
          q.same
          ∙ (λ i. record {
            a = record (p.same i).a { now = n.a.now };
            b = record (p.same i).b { now = n.b.now };
            c = record (p.same i).c { now = n.c.now };
          });
      long_a = q.long_a ∙ p.long_a;
      long_b = q.long_b ∙ p.long_b;
      long_c = q.long_c ∙ p.long_c;
    }

-- they have as much room as before
pub still_room : {l m : Lines} {used : ℕ} → EvenLines l → used ≤ 3 * length l.a.now → SameLines l m → used ≤ length (whole m)
still_room {l} {m} even few s =
    let even' : EvenLines m = record { second = omega (arith, even.second, s.long_a, s.long_b); third = omega (arith, even.third, s.long_a, s.long_c) } in
    omega (arith, length_lines m.a.now m.b.now m.c.now even', few, s.long_a)
