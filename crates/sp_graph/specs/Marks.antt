-- What the mark of a vertex says about a table of words.
use Rattle.std.specs.Prelude.{ℕ, ◌+◌, ◌≤◌, All}
use Rattle.sp_word.specs.History.{Table}
use Rattle.sp_paths.specs.declared.arc.Arc.{Arc}
use Rattle.sp_paths.specs.Paths.{Graph, IsAtMost}
use Rattle.sp_paths.specs.Rows.{row_of}
use Rattle.sp_graph.specs.declared.marks.Mark.{Mark}

-- With the distance d at its tail, the arc offers a distance of at most max, and the word of its head is at most this
-- offer.
abbrev pub IsRelaxedWithin : (max : ℕ) → Table → (d : ℕ) → Arc → Type 0
IsRelaxedWithin max words d a = (d + a.len ≤ max) × IsAtMost (words a.head) (d + a.len) a.tail

-- This is true of each arc of the vertex, at the distance of the mark.
abbrev pub IsTrueMark : (max : ℕ) → Graph → Table → Mark → Type 0
IsTrueMark max g words mark = All (IsRelaxedWithin max words mark.dist) (row_of g.arcs mark.vertex)
