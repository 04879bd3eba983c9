-- `meshes::bounds` meets its contract: before vertex v the box is that of the vertices 0 to v - 1. Assumes nothing.
use Rattle.std.proofs.Common.{◌≡◌, refl, sym, ap, ◌∙◌, List, [], ◌∷◌, ℕ, suc, ◌+◌, ◌-◌, ◌*◌, ◌≤◌, ◌<◌, add-zero, arith, Float}
use Rattle.lists.specs.Lists.{at}
use Rattle.meshes.specs.declared.VertexBox.{VertexBox}
use Rattle.meshes.specs.FlatMesh.{vertex_count, vertex_at}
use Rattle.meshes.specs.BoxOfVertices.{reached_by, box_to, box_for, box_of}
use Rattle.meshes.proofs.vertex_box.bounds.Goals as goal

box_more : (vs : List Float) (v : ℕ) → 1 ≤ v → box_to vs (v + 1 - 1) ≡ reached_by (box_to vs (v - 1)) (vertex_at vs v)
unfolding box_to
box_more vs v h =
    let e : v + 1 - 1 ≡ suc (v - 1) = omega arith in
    let f : suc (v - 1) ≡ v = omega arith in
    ap (box_to vs) e ∙ ap (λ (n : ℕ). reached_by (box_to vs (v - 1)) (vertex_at vs n)) f

box_all : (vs : List Float) (n : ℕ) → 0 < n → box_for vs n ≡ box_to vs (n - 1)
box_all vs n h = let e : n ≡ suc (n - 1) = omega arith in ap (box_for vs) e

pub returns-then-count-eq0 : goal.returns-then-count-eq0
unfolding box_of
returns-then-count-eq0 c = rw c.if-count-eq0.true

pub loop-v-init : goal.loop-v-init
unfolding box_to
loop-v-init c = rw c.triple_at-first.ensures

pub loop-v-preserved : goal.loop-v-preserved
loop-v-preserved c =
    let vs = c.args.vertices.now in
    let v = c.loop-v.v in
    let here : at vs (3 * v) ∷ at vs (3 * v + 1) ∷ at vs (3 * v + 2) ∷ [] ≡ vertex_at vs v = rw add-zero refl in
    c.reach-b.ensures
    ∙ ap (λ (p : List Float). reached_by c.loop-v.b p) (c.triple_at.ensures ∙ here)
    ∙ ap (λ (b : VertexBox). reached_by b (vertex_at vs v)) c.loop-v.invariant
    ∙ sym (box_more vs v c.loop-v.auto.v)

pub returns : goal.returns
unfolding box_of
returns c =
    let vs = c.args.vertices.now in
    let some : 0 < vertex_count vs = omega arith in
    let all : c.loop-v.v ≡ vertex_count vs = omega (arith, c.loop-v.auto.v-end some) in
    c.loop-v.invariant ∙ ap (λ (n : ℕ). box_to vs (n - 1)) all ∙ sym (box_all vs (vertex_count vs) some)
