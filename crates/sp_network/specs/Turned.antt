-- Graphs whose arcs are turned round, and graphs whose arcs lead both ways.
use Rattle.std.specs.Prelude.{◌≡◌, List, [], ◌∷◌, ◌++◌, map}
use Rattle.std.specs.List.Sorted.{IsPermutation}
use Rattle.sp_paths.specs.declared.arc.Arc.{Arc}
use Rattle.sp_paths.specs.Paths.{Graph}

-- The arc from its head to its tail, of the same length.
abbrev pub turned_arc : Arc → Arc
turned_arc a = record { tail = a.head; head = a.tail; len = a.len }

-- Each arc of a list, turned round.
abbrev pub turned : List Arc → List Arc
turned arcs = map turned_arc arcs

-- Each arc of a list, followed by the same arc turned round.
abbrev pub with_turned : List Arc → List Arc
with_turned [] = []
with_turned (a ∷ arcs) = a ∷ turned_arc a ∷ with_turned arcs

-- h has as many vertices as g, and its arcs are those of g turned round, in any order.
pub record IsTurned (g h : Graph) : Type 0 where
  pub n : g.n ≡ h.n
  pub arcs : IsPermutation (turned g.arcs) h.arcs

-- h has as many vertices as g, and its arcs are, in any order, those of g and the same turned round; so a loop appears
-- twice.
pub record IsBothWays (g h : Graph) : Type 0 where
  pub n : g.n ≡ h.n
  pub arcs : IsPermutation (g.arcs ++ turned g.arcs) h.arcs

-- The graphs have the same number of vertices and the same arcs, in any order.
pub record HaveSameArcs (g h : Graph) : Type 0 where
  pub n : g.n ≡ h.n
  pub arcs : IsPermutation g.arcs h.arcs
