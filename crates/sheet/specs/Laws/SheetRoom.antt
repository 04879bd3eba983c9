-- A sheet that fits has its points: at most 256, from the header's end to the sheet's; and it asks for no depth from 4 to 8. By the tests that a sheet passes.
-- Assumes nothing.
use Rattle.std.specs.Prelude.{◌≡◌, refl, Bool, true, false, cond, not, ◌||◌, ◌&&◌, List, ℕ, ◌+◌, ◌*◌, ◌≤◌, ◌<◌, ltb, leb, eqb, length, Result, Ok, Err}
use Rattle.std.proofs.Common.{subst, true≢false, arith, ltb-false, leb-false, eqb-true, le-leb}
use Rattle.points.specs.Points.{numbers_per_point}
use Rattle.sheet.specs.declared.Header.{Header}
use Rattle.sheet.specs.declared.SheetError.{SheetError}
use Rattle.sheet.specs.declared.SheetError.TheVariants.{Wrong, Deep}
use Rattle.sheet.specs.Sheet.{be16, depth_of, count_of, start_of, point_bytes, header_of, is_wrong, sheet_of}

pub record Roomy (s : List ℕ) (h : Header) : Type 0 where
  pub few : h.count ≤ 256
  pub near : h.start ≤ 24
  pub whole : length s ≡ h.start + 4 * (numbers_per_point * h.count)
  pub not_deep : 4 ≤ h.settings.depth → 8 < h.settings.depth

-- what is not wrong, and not deep
right : (s : List ℕ) → is_wrong s ≡ false → leb 4 (depth_of (be16 s 0)) && leb (depth_of (be16 s 0)) 8 ≡ false → Roomy s (header_of s (be16 s 0))
unfolding is_wrong
right s e shallow =
    let w = be16 s 0 in
    let t = neither (ltb (length s) 2) (ltb 256 (count_of w) || not (eqb (length s) (start_of w + point_bytes w))) e in
    let u = neither (ltb 256 (count_of w)) (not (eqb (length s) (start_of w + point_bytes w))) t.1 in
    let last = start_of w + point_bytes w in
    let all : length s ≡ last = eqb-true (length s) last (indeed (eqb (length s) last) u.1) in
    record {
      few = ltb-false 256 (count_of w) u.0;
      near = omega arith;
      whole = omega arith;
      not_deep = λ deep. beyond (depth_of w) deep shallow;
    }
  where
    beyond : (d : ℕ) → 4 ≤ d → leb 4 d && leb d 8 ≡ false → 8 < d
    beyond d deep h = leb-false d 8 (rw (le-leb 4 d deep) at h)

    neither : (a b : Bool) → (a || b) ≡ false → (a ≡ false) × (b ≡ false)
    neither true b e = absurd (true≢false e)
    neither false b e = (refl, e)

    indeed : (b : Bool) → not b ≡ false → b ≡ true
    indeed true e = refl
    indeed false e = absurd (true≢false e)

pub fits_roomy : (s : List ℕ) (h : Header) → sheet_of s ≡ Ok h → Roomy s h
unfolding sheet_of
fits_roomy s h e = by_cases (is_wrong s) (leb 4 (depth_of (be16 s 0)) && leb (depth_of (be16 s 0)) 8) refl refl e
  where
    same : {a b : Header} → ◌≡◌ {A = Result Header SheetError} (Ok a) (Ok b) → a ≡ b
    same p = cc

    by_cases : (w d : Bool) → is_wrong s ≡ w → leb 4 (depth_of (be16 s 0)) && leb (depth_of (be16 s 0)) 8 ≡ d
        → cond w (Err Wrong) (cond d (Err Deep) (Ok (header_of s (be16 s 0)))) ≡ Ok h → Roomy s h
    by_cases true d p r q = let z : ◌≡◌ {A = ℕ} 0 1 = cc in absurd (omega arith)
    by_cases false true p r q = let z : ◌≡◌ {A = ℕ} 0 1 = cc in absurd (omega arith)
    by_cases false false p r q = subst (λ (k : Header). Roomy s k) (same q) (right s p r)
