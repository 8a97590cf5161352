-- The text of a tree.
use Rattle.std.specs.Prelude.{ℕ, List, [], ◌++◌, length, codes}
use Rattle.std.specs.List.{flat_map}
use Rattle.sp_word.specs.Word.{Word, Unreached, Pair}
use Rattle.sp_text.specs.Numeral.{number_text}
use Rattle.sp_answer.specs.Table.{TreeTable, rows_from}

-- This is the line `p spt N S`.
abbrev pub problem_text : (n source : ℕ) → List ℕ
problem_text n source = codes "p spt" ++ number_text n ++ number_text source ++ codes "\n"

-- This is the line `v V D P`, for a vertex that is reached.
abbrev pub reached_text : (vertex : ℕ) → Word → List ℕ
reached_text vertex Unreached = []
reached_text vertex (Pair d p) = codes "v" ++ number_text vertex ++ number_text d ++ number_text p ++ codes "\n"

-- This is the line of a row.
abbrev pub row_text : ℕ × Word → List ℕ
row_text row = reached_text row.0 row.1

-- These are the lines of the reached vertices among those from `first` on, which have these words.
abbrev pub words_text : (first : ℕ) → List Word → List ℕ
words_text first words = flat_map row_text (rows_from first words)

-- This is the line `e R`.
abbrev pub end_text : (count : ℕ) → List ℕ
end_text count = codes "e" ++ number_text count ++ codes "\n"

-- The block of a tree: its problem line, its rows, and the number of its rows.
unfoldable pub tree_text : TreeTable → List ℕ
tree_text t = problem_text t.n t.source ++ flat_map row_text t.rows ++ end_text (length t.rows)

-- This is the line `x S V`, for a source and a vertex that is too far from it.
unfoldable pub far_text : (source vertex : ℕ) → List ℕ
far_text source vertex = codes "x" ++ number_text source ++ number_text vertex ++ codes "\n"
