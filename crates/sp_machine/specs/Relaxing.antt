-- Programmes that relax the arcs of a graph from a source.
use Rattle.std.specs.Prelude.{ℕ, All, Option, Some, None}
use Rattle.std.specs.List.{filter_map, flat_map}
use Rattle.sp_paths.specs.declared.arc.Arc.{Arc}
use Rattle.sp_paths.specs.Paths.{Graph, IsVertex, word_at}
use Rattle.sp_paths.specs.Calls.{IsOpening}
use Rattle.sp_machine.specs.declared.item.Item.{Item}
use Rattle.sp_machine.specs.declared.item.Item.TheVariants.{Offer, Read, Relax}
use Rattle.sp_machine.specs.Programme.{Programme, opening_words}

-- This is the arc that an item relaxes.
abbrev pub arc_of : {P : ℕ} → Item P → Option Arc
arc_of (Offer v w) = None
arc_of (Read v) = None
arc_of (Relax u v l) = Some (record { tail = u; head = v; len = l })

-- This is the graph of a programme: its vertices, and the arcs that its items relax.
abbrev pub graph_of : {P : ℕ} → Programme P → Graph
graph_of p = record { n = p.words; arcs = flat_map (λ row. filter_map arc_of row) p.rows }

-- The item is a relaxation or a read, and not an offer by itself.
abbrev pub IsRelaxOrRead : {P : ℕ} → Item P → Type 0
IsRelaxOrRead (Offer v w) = ⊥
IsRelaxOrRead (Read v) = Unit {0}
IsRelaxOrRead (Relax u v l) = Unit {0}

-- The words at the start are (0, 0) at the vertex s and unreached elsewhere, and the items are relaxations and reads.
pub record RelaxesFrom {P : ℕ} (p : Programme P) (s : ℕ) : Type 0 where
  pub source : IsVertex p.words s
  pub opened : IsOpening p.words s (word_at (opening_words p))
  pub items : All (λ row. All IsRelaxOrRead row) p.rows
