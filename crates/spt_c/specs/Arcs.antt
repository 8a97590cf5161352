-- Arcs as C passes them, and the graph that they make.
use Rattle.std.specs.Prelude.{ℕ, List, map}
use Rattle.sp_paths.specs.declared.arc.Arc.{Arc}
use Rattle.sp_paths.specs.Paths.{Graph}
use Rattle.spt_c.specs.declared.arcs.SptArc.{SptArc}

-- An arc of C in the engine's form.
abbrev pub arc_of : SptArc → Arc
arc_of a = record { tail = a.tail; head = a.head; len = a.len }

-- The graph has n vertices, and an arc for each one that is passed.
abbrev pub graph_of : (n : ℕ) → List SptArc → Graph
graph_of n arcs = record { n = n; arcs = map arc_of arcs }
