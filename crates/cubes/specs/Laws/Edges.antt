-- The cube's edges as code finds them: between which corners an edge lies, which axis it has and which end is the lower, each by a test of all twelve.
-- Assumes nothing.
use Rattle.std.specs.Prelude.{◌≡◌, refl, Bool, true, cond, ◌&&◌, List, ℕ, zero, suc, ◌+◌, ◌≤◌, ◌<◌, leb, ltb, eqb, get_or}
use Rattle.std.proofs.Common.{ap, ◌∙◌, arith, leb-true, ltb-true, eqb-true}
use Rattle.closed.specs.Lists.{bit, every}
use Rattle.closed.specs.Table.{cube_edges, corner_at, ends_of, cube_axis, low_of}
use Rattle.closed.proofs.Laws.Counting.{both_true, every_all}
use Rattle.closed.proofs.Laws.Renumber.{all_in}
use Rattle.closed.proofs.Laws.Tested.{in_cube_edges}
use Rattle.cubes.specs.Words.{place_of, pair_of}

-- what passes a test at each of the twelve
twelve : (t : ℕ → Bool) → every t cube_edges ≡ true → (e : ℕ) → e < 12 → t e ≡ true
twelve t h e b = all_in (λ x. t x ≡ true) cube_edges (every_all t cube_edges h) e (in_cube_edges e b)

pub end_small : (e : ℕ) → e < 12 → ((ends_of e).0 < 8) × ((ends_of e).1 < 8)
end_small e b =
    let t = both_true (ltb (ends_of e).0 8) (ltb (ends_of e).1 8) (twelve (λ e. ltb (ends_of e).0 8 && ltb (ends_of e).1 8) refl e b) in
    (ltb-true (ends_of e).0 8 t.0, ltb-true (ends_of e).1 8 t.1)

pub axis_small : (e : ℕ) → e < 12 → cube_axis e < 3
axis_small e b = ltb-true (cube_axis e) 3 (twelve (λ e. ltb (cube_axis e) 3) refl e b)

pub low_small : (e : ℕ) → e < 12 → low_of e < 8
low_small e b = ltb-true (low_of e) 8 (twelve (λ e. ltb (low_of e) 8) refl e b)

-- the lower end lies at most one step from corner 0 along each axis, and so does the upper one
pub record InCube (e : ℕ) : Type 0 where
  pub x : (corner_at (low_of e)).0 + bit (eqb 0 (cube_axis e)) ≤ 1
  pub y : (corner_at (low_of e)).1 + bit (eqb 1 (cube_axis e)) ≤ 1
  pub z : (corner_at (low_of e)).2 + bit (eqb 2 (cube_axis e)) ≤ 1

pub in_cube : (e : ℕ) → e < 12 → InCube e
in_cube e b =
    record {
      x = leb-true ((corner_at (low_of e)).0 + bit (eqb 0 (cube_axis e))) 1 (twelve (λ e. leb ((corner_at (low_of e)).0 + bit (eqb 0 (cube_axis e))) 1) refl e b);
      y = leb-true ((corner_at (low_of e)).1 + bit (eqb 1 (cube_axis e))) 1 (twelve (λ e. leb ((corner_at (low_of e)).1 + bit (eqb 1 (cube_axis e))) 1) refl e b);
      z = leb-true ((corner_at (low_of e)).2 + bit (eqb 2 (cube_axis e))) 1 (twelve (λ e. leb ((corner_at (low_of e)).2 + bit (eqb 2 (cube_axis e))) 1) refl e b);
    }

-- the count along an axis
abbrev along : ℕ × ℕ × ℕ → ℕ → ℕ
along p zero = p.0
along p (suc zero) = p.1
along p (suc (suc a)) = p.2

pub along_at : (l : List ℕ) (a : ℕ) → a < 3 → get_or l a 0 ≡ along (place_of l) a
along_at l zero h = refl
along_at l (suc zero) h = refl
along_at l (suc (suc zero)) h = refl
along_at l (suc (suc (suc a))) h = absurd (omega arith)

-- the edge e, the array ab of its ends and their places a and b
module _ (e : ℕ) (ab a b : List ℕ) (he : pair_of ab ≡ ends_of e) (ha : place_of a ≡ corner_at (get_or ab 0 0)) (hb : place_of b ≡ corner_at (get_or ab 1 0)) where
  first : place_of a ≡ corner_at (ends_of e).0
  first = ha ∙ ap (λ (p : ℕ × ℕ). corner_at p.0) he

  second : place_of b ≡ corner_at (ends_of e).1
  second = hb ∙ ap (λ (p : ℕ × ℕ). corner_at p.1) he

  pub axis_by : cond (eqb (get_or a 0 0) (get_or b 0 0)) (cond (eqb (get_or a 1 0) (get_or b 1 0)) 2 1) 0 ≡ cube_axis e
  axis_by =
      ap (λ (p : ℕ × ℕ × ℕ). cond (eqb p.0 (get_or b 0 0)) (cond (eqb p.1 (get_or b 1 0)) 2 1) 0) first
      ∙ ap (λ (p : ℕ × ℕ × ℕ). cond (eqb (corner_at (ends_of e).0).0 p.0) (cond (eqb (corner_at (ends_of e).0).1 p.1) 2 1) 0) second

  -- the lower end is the one with the lesser count along the edge's axis
  pub low_by : (axis : ℕ) → e < 12 → axis ≡ cube_axis e → cond (ltb (get_or a axis 0) (get_or b axis 0)) (get_or ab 0 0) (get_or ab 1 0) ≡ low_of e
  low_by axis h q =
      ap (λ (x : ℕ). cond (ltb (get_or a x 0) (get_or b x 0)) (get_or ab 0 0) (get_or ab 1 0)) q
      ∙ ap (λ (x : ℕ). cond (ltb x (get_or b (cube_axis e) 0)) (get_or ab 0 0) (get_or ab 1 0)) (along_at a (cube_axis e) (axis_small e h) ∙ ap (λ (p : ℕ × ℕ × ℕ). along p (cube_axis e)) first)
      ∙ ap (λ (x : ℕ). cond (ltb (along (corner_at (ends_of e).0) (cube_axis e)) x) (get_or ab 0 0) (get_or ab 1 0)) (along_at b (cube_axis e) (axis_small e h) ∙ ap (λ (p : ℕ × ℕ × ℕ). along p (cube_axis e)) second)
      ∙ ap (λ (p : ℕ × ℕ). cond (ltb (along (corner_at (ends_of e).0) (cube_axis e)) (along (corner_at (ends_of e).1) (cube_axis e))) p.0 p.1) he
      ∙ eqb-true (lower e) (low_of e) (twelve (λ e. eqb (lower e) (low_of e)) refl e h)
    where
      lower : ℕ → ℕ
      lower e = cond (ltb (along (corner_at (ends_of e).0) (cube_axis e)) (along (corner_at (ends_of e).1) (cube_axis e))) (ends_of e).0 (ends_of e).1
