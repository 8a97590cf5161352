-- The rows of a graph by tail, with their light and heavy arcs: sublists of the list of arcs, in its order.
use Rattle.std.specs.Prelude.{◌≡◌, ℕ, ◌+◌, ◌<◌, ◌≤◌, ◌↔◌, List, Contains, filter, All, nat_eq, nat_le, nat_lt}
use Rattle.sp_word.specs.History.{Table}
use Rattle.sp_paths.specs.declared.arc.Arc.{Arc}
use Rattle.sp_word.specs.Word.{Pair}
use Rattle.sp_paths.specs.Paths.{Graph, IsVertex, IsGraph, HasArc, IsAtMost, IsRelaxedLight, IsRelaxedHeavy}

-- The row of v: the arcs that leave v.
abbrev pub row_of : List Arc → (v : ℕ) → List Arc
row_of arcs v = filter (λ a. nat_eq a.tail v) arcs

-- The light arcs of v: those of length at most delta.
abbrev pub light_of : List Arc → (delta v : ℕ) → List Arc
light_of arcs delta v = filter (λ a. nat_le a.len delta) (row_of arcs v)

-- The heavy arcs of v: those of length above delta.
abbrev pub heavy_of : List Arc → (delta v : ℕ) → List Arc
heavy_of arcs delta v = filter (λ a. nat_lt delta a.len) (row_of arcs v)

-- An arc of a vertex at distance d was relaxed.
abbrev pub IsArcRelaxed : (max : ℕ) → Table → (d : ℕ) → Arc → Type 0
IsArcRelaxed max words d arc = d + arc.len ≤ max → IsAtMost (words arc.head) (d + arc.len) arc.tail

-- Whatever holds for the arcs of the rows holds for the arcs of the graph.
pub record RowsAreArcs (g : Graph) (delta : ℕ) : Type 0 where
  pub row : (u v l : ℕ) → HasArc g u v l ↔ Contains (row_of g.arcs u) (record { tail = u; head = v; len = l })
  pub light : (u v l : ℕ) → (HasArc g u v l × (l ≤ delta)) ↔ Contains (light_of g.arcs delta u) (record { tail = u; head = v; len = l })
  pub heavy : (u v l : ℕ) → (HasArc g u v l × (delta < l)) ↔ Contains (heavy_of g.arcs delta u) (record { tail = u; head = v; len = l })

-- This is true of every graph and every delta.
abbrev pub RowsHoldArcs : Type 0
RowsHoldArcs = (g : Graph) (delta : ℕ) → RowsAreArcs g delta

-- If the light row of each vertex below the bound was relaxed, then its light arcs were relaxed.
abbrev pub LightRowsRelaxed : Type 0
LightRowsRelaxed = (g : Graph) (max delta bound : ℕ) (words : Table) → IsGraph g
    → ((u d p : ℕ) → IsVertex g.n u → words u ≡ Pair d p → d < bound → All (IsArcRelaxed max words d) (light_of g.arcs delta u))
    → IsRelaxedLight g max delta bound words

-- If the heavy row of each vertex below the bound was relaxed, then its heavy arcs were relaxed.
abbrev pub HeavyRowsRelaxed : Type 0
HeavyRowsRelaxed = (g : Graph) (max delta bound : ℕ) (words : Table) → IsGraph g
    → ((u d p : ℕ) → IsVertex g.n u → words u ≡ Pair d p → d < bound → All (IsArcRelaxed max words d) (heavy_of g.arcs delta u))
    → IsRelaxedHeavy g max delta bound words
