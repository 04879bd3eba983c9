-- What the trim's passes leave, in the order of the passes: the table over the old vertices, the renumbered faces, the coordinates on their way.
-- Definitions only; assumes nothing.
use Rattle.std.specs.Prelude.{◌≡◌, List, ◌++◌, ℕ, zero, suc, ◌+◌, ◌*◌, ◌≤◌, ◌<◌, length, get_or, set, take, Float}
use Rattle.lists.specs.Lists.{at}
use Rattle.closed.specs.Faces.{Face, faces}
use Rattle.closed.specs.Numbering.{used, mesh, slot}
use Rattle.meshes.specs.FlatMesh.{vertex_count, coordinate}
use Rattle.meshes.specs.declared.MeshSize.{MeshSize}
use Rattle.trim.specs.declared.moving.Lines.{Lines}

-- ---- the table: for each old vertex 0, or one more than its place among those seen

pub record Slots (seen table : List ℕ) (count : ℕ) : Type 0 where
  pub total : count ≡ length seen
  pub entry : (v : ℕ) → v < length table → get_or table v 0 ≡ slot seen v

-- each corner of a face has a number
pub record Noted (table f : List ℕ) : Type 0 where
  pub first : 1 ≤ get_or table (get_or f 0 0) 0
  pub second : 1 ≤ get_or table (get_or f 1 0) 0
  pub third : 1 ≤ get_or table (get_or f 2 0) 0

-- faces renumbered at first use, and the table that did it
pub record Renumbered (fs fs' : List Face) (table : List ℕ) (count : ℕ) : Type 0 where
  pub renumbered : fs' ≡ mesh fs
  pub slots : Slots (used fs) table count

-- the kept faces, renumbered, at the front of a flat list; how many they are and how many vertices they use
pub record Front (kept : List Face) (numbers table : List ℕ) (size : MeshSize) : Type 0 where
  pub count : size.faces ≡ length kept
  pub renumbered : take size.faces (faces numbers) ≡ mesh kept
  pub slots : Slots (used kept) table size.vertices

-- ---- three slices of one length, taken as one

abbrev pub lines : List Float → List Float → List Float → List Float
lines a b c = a ++ b ++ c

pub record Even (a b c : List Float) : Type 0 where
  pub second : length b ≡ length a
  pub third : length c ≡ length a

-- the three that are lent together
abbrev pub whole : Lines → List Float
whole l = lines l.a.now l.b.now l.c.now

abbrev pub EvenLines : Lines → Type 0
EvenLines l = Even l.a.now l.b.now l.c.now

-- the same three slices, as long as they were, whatever stands in them
pub record SameLines (l m : Lines) : Type 0 where
  pub same : m ≡ record { a = record l.a { now = m.a.now }; b = record l.b { now = m.b.now }; c = record l.c { now = m.c.now } }
  pub long_a : length m.a.now ≡ length l.a.now
  pub long_b : length m.b.now ≡ length l.b.now
  pub long_c : length m.c.now ≡ length l.c.now

-- ---- the coordinates of one axis: from the old vertices to the places of their new numbers in a list, and from there to the new vertices

-- x at the place that an entry of the table names, if it names one
abbrev pub carried : List Float → ℕ → Float → List Float
carried line zero x = line
carried line (suc w) x = set line w x

-- with the old vertices before v
unfoldable pub gathered : List ℕ → List Float → ℕ → List Float → ℕ → List Float
gathered table vertices axis line zero = line
gathered table vertices axis line (suc v) = carried (gathered table vertices axis line v) (get_or table v 0) (coordinate vertices v axis)

-- with the new vertices before w
unfoldable pub scattered : List Float → ℕ → List Float → ℕ → List Float
scattered line axis vertices zero = vertices
scattered line axis vertices (suc w) = set (scattered line axis vertices w) (3 * w + axis) (at line w)

-- what the gathering asks
pub record Lists (table : List ℕ) (vertices : List Float) (l : Lines) (axis : ℕ) : Type 0 where
  pub even : EvenLines l
  pub one_axis : axis < 3
  pub marks : vertex_count vertices ≤ length table
  pub numbered : (v : ℕ) → v < vertex_count vertices → get_or table v 0 ≤ 3 * length l.a.now
