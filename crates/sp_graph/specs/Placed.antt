-- The arcs of vertices in four places each.
use Rattle.std.specs.Prelude.{◌≡◌, ◌↔◌, ℕ, ◌+◌, ◌-◌, ◌*◌, ◌<◌, ◌≤◌, List, [], ◌∷◌, length, get_or}
use Prim.Native.Nat.{zero, suc}
use Rattle.sp_paths.specs.declared.arc.Arc.{Arc}
use Rattle.sp_paths.specs.Rows.{row_of}
use Rattle.sp_graph.specs.declared.place.Place.{Place}
use Rattle.sp_graph.specs.declared.place.Few.{Few}

-- A place without an arc.
abbrev pub none : Place
none = record { head = 0; len = 0 }

-- The arc that a place of the vertex `tail` holds.
abbrev pub arc_at : (tail : ℕ) → Place → Arc
arc_at tail place = record { tail = tail; head = place.head; len = place.len }

-- Places of which only the first one isn't empty.
abbrev pub only : Place → Few
only first = record { first = first; second = none; third = none; fourth = none }

-- The arc leaves the vertex.
abbrev pub Leaves : ℕ → Arc → Type 0
Leaves v a = a.tail ≡ v

-- What a place holds of the arc at an index of a row, or nothing behind the row's end.
abbrev pub place_at : List Arc → ℕ → Place
place_at [] index = none
place_at (a ∷ row) zero = record { head = a.head; len = a.len }
place_at (a ∷ row) (suc index) = place_at row index

-- The arc of a place before the arcs behind it. A place whose length is 0 holds none, and no place behind it counts.
abbrev pub before : (tail head len : ℕ) → List Arc → List Arc
before tail head zero rest = []
before tail head (suc l) rest = record { tail = tail; head = head; len = suc l } ∷ rest

-- The arcs in the four places of the vertex `tail`.
abbrev pub arcs_in : (tail : ℕ) → Few → List Arc
arcs_in tail few =
    before tail few.first.head few.first.len
    (before tail few.second.head few.second.len (before tail few.third.head few.third.len (before tail few.fourth.head few.fourth.len [])))

-- The places of the vertex v tell whether it has arcs; and if the first one holds an arc, they hold them all.
pub record KeepsRow (v : ℕ) (few : Few) (row : List Arc) : Type 0 where
  pub some : 0 < few.first.head ↔ 0 < length row
  pub all : 1 ≤ few.first.len → arcs_in v few ≡ row

-- The places of the vertex v, which stand behind two free places and those of the vertices before it.
abbrev pub few_at : List Place → (v : ℕ) → (default : Place) → Few
few_at places v default = record { first = get_or places (4 * v - 2) default; second = get_or places (4 * v - 1) default; third = get_or places (4 * v) default; fourth = get_or places (4 * v + 1) default }

-- The list holds the rows of the first `count` vertices.
pub record KeepsRows (count : ℕ) (arcs : List Arc) (places : List Place) : Type 0 where
  pub size : length places ≡ 4 * count + 2
  pub rows : (v : ℕ) (default : Place) → 1 ≤ v → v ≤ count → KeepsRow v (few_at places v default) (row_of arcs v)
