-- The verdict in the groups in which the code asks for it: the checks before any slice is touched, those of the untrimmed mesh, the last. By the grouping
-- law of `then`. Assumes nothing.
use mathlib.Core.Path.{◌≡◌, sym, ap, ◌∙◌}
use mathlib.Core.List.{List}
use lib.ListN.{length}
use lib.Ieee.{Float}
use Rattle.points.specs.declared.point.Point.{Point}
use Rattle.points.specs.Points.{usables}
use Rattle.settings.specs.declared.Settings.{Settings}
use Rattle.settings.specs.declared.Lengths.{Lengths}
use Rattle.answers.specs.Answers.{Verdict, ◌then◌}
use Rattle.settings.specs.Refusals.{early_verdict, usable_verdict, extent_verdict, vertex_room_verdict, face_room_verdict, room_verdict, mesh_verdict}
use Rattle.answers.specs.Laws.InARow.{then_assoc}
use Rattle.scan.specs.Reconstruction.{extent_for, vertex_total, face_total, kept_faces, late_verdict, verdict_of}

pub first_checks : (xs : List Float) (st : Settings) (lent : Lengths)
    → verdict_of xs st lent
    ≡ (early_verdict xs st lent then usable_verdict (length (usables xs)) then extent_verdict (extent_for (usables xs))) then late_verdict (usables xs) st lent
unfolding verdict_of
first_checks xs st lent =
    let e = early_verdict xs st lent in
    let u = usable_verdict (length (usables xs)) in
    let x = extent_verdict (extent_for (usables xs)) in
    let l = late_verdict (usables xs) st lent in
    sym (then_assoc e (u then x) l ∙ ap (λ (v : Verdict). e then v) (then_assoc u x l))

pub late_checks : (ps : List Point) (st : Settings) (lent : Lengths)
    → late_verdict ps st lent
    ≡ (room_verdict (vertex_total ps st) (face_total ps st) lent then mesh_verdict (face_total ps st)) then mesh_verdict (length (kept_faces ps st))
unfolding late_verdict
late_checks ps st lent =
    let a = vertex_room_verdict (vertex_total ps st) lent in
    let b = face_room_verdict (face_total ps st) lent in
    let m = mesh_verdict (face_total ps st) in
    let k = mesh_verdict (length (kept_faces ps st)) in
    sym (then_assoc (a then b) m k ∙ then_assoc a b (m then k))
