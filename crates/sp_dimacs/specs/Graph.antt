-- The graph that a text spells.
use Rattle.std.specs.Prelude.{◌≡◌, ◌≤◌, ℕ, Bool, List, map, length, slice_index, All, Option, Result}
use Rattle.sp_word.specs.Word.{max_pred}
use Rattle.sp_text.specs.declared.faults.DimacsError.{DimacsError}
use Rattle.sp_text.specs.Text.{ItemLine, Spells, judge}
use Rattle.sp_text.specs.Collecting.{SpelledBy}
use Rattle.sp_text.specs.Whole.{AllRead}
use Rattle.sp_dimacs.specs.declared.formats.TheConstants.{MOST_ARCS}
use Rattle.sp_dimacs.specs.Formats.{gr_up_to}
use Rattle.sp_paths.specs.declared.arc.Arc.{Arc}
use Rattle.sp_paths.specs.Paths.{Graph, IsArc}
use Rattle.sp_text.specs.Formats.{ranges_of}
use Rattle.sp_dimacs.specs.declared.graphs.GrFile.{GrFile}

-- This is the arc of a line `a U V W`.
abbrev pub arc_of : ItemLine → Arc
arc_of item = record { tail = slice_index item.numbers 0; head = slice_index item.numbers 1; len = slice_index item.numbers 2 }

-- The file holds the first number of the problem line, and the arcs in the order of their lines.
abbrev pub IsGraph : List ℕ → List ItemLine → GrFile → Type 0
IsGraph problem items file = (file.n ≡ slice_index problem 0) × (file.arcs.items ≡ map arc_of items)

-- The text may announce at most `most` arcs, has no fault, and spells this graph.
abbrev pub SpellsUpTo : (P most : ℕ) → List ℕ → GrFile → Type 0
SpellsUpTo P most text file = (problem : List ℕ) × (items : List ItemLine) × Spells (gr_up_to most) (ranges_of P) text problem items × IsGraph problem items file

-- The text has no fault, and spells this graph.
abbrev pub SpellsGraph : ℕ → List ℕ → GrFile → Type 0
SpellsGraph P text file = SpellsUpTo P MOST_ARCS text file

-- This is the result for the whole text of a device, part of which may be left. The text may announce at most `most` arcs.
abbrev pub ReadUpTo : (P most : ℕ) → List ℕ → Option (List ℕ) → Bool → Result GrFile DimacsError → Type 0
ReadUpTo P most text left has_failed result = AllRead (judge (gr_up_to most) (ranges_of P)) (SpelledBy (gr_up_to most) IsGraph) text left has_failed result

-- This is the result for the whole text of a device, part of which may be left.
abbrev pub GraphRead : ℕ → List ℕ → Option (List ℕ) → Bool → Result GrFile DimacsError → Type 0
GraphRead P text left has_failed result = ReadUpTo P MOST_ARCS text left has_failed result

-- This is the graph of a file.
abbrev pub graph_of : GrFile → Graph
graph_of file = record { n = file.n; arcs = file.arcs.items }

-- There is a vertex, there are no more vertices than a word of the layout can name, and the arcs, at most `most_arcs`, join
-- these vertices.
pub record IsNetworkUpTo (P most_arcs : ℕ) (file : GrFile) : Type 0 where
  pub least : 1 ≤ file.n
  pub most : file.n ≤ max_pred P
  pub short : length file.arcs.items ≤ most_arcs
  pub arcs : All (IsArc file.n) file.arcs.items

-- The network is within the limits of the layout and of the format.
abbrev pub IsNetwork : (P : ℕ) → GrFile → Type 0
IsNetwork P file = IsNetworkUpTo P MOST_ARCS file
