-- What the checks and the stages of a call leave, before the ending. Definitions only; assumes nothing.
use Rattle.std.specs.Prelude.{◌≡◌, List, ℕ, ◌*◌, ◌≤◌, length, take, Float}
use Rattle.answers.specs.declared.Answer.{Answer}
use Rattle.scan.specs.Reconstruction.{Results}

-- the results stand at the front of vs and fs, as long as r says
pub record Shown (d : Results) (r : Answer) (vs : List Float) (fs : List ℕ) : Type 0 where
  pub answered : r ≡ d.answer
  pub v_room : 3 * r.vertices ≤ length vs
  pub v_held : take (3 * r.vertices) vs ≡ d.vertices
  pub v_count : length d.vertices ≡ 3 * r.vertices
  pub f_room : 3 * r.faces ≤ length fs
  pub f_held : take (3 * r.faces) fs ≡ d.faces
  pub f_count : length d.faces ≡ 3 * r.faces
