-- The line forms of the files.
use Rattle.std.specs.Prelude.{ℕ, List, false, [], ◌∷◌, codes}
use Rattle.sp_text.specs.declared.formats.Field.{Field}
use Rattle.sp_text.specs.declared.formats.Top.{Top}
use Rattle.sp_text.specs.declared.formats.Top.TheVariants.{Number, Vertex, Problem}
use Rattle.sp_text.specs.Formats.{Format, LineForm, field}
use Rattle.sp_dimacs.specs.declared.formats.TheConstants.{MOST_ARCS, LONGEST_ARC, MOST_SOURCES}

-- This is a line with these words and these numbers, with a limit on how many such lines there may be.
abbrev pub line_form : List (List ℕ) → List Field → Top → LineForm
line_form words fields limit = record { words = words; fields = fields; fresh = false; group = 0; limit = limit }

-- A `.gr` file has the problem line `p sp N M`, and M lines `a U V W`.
abbrev pub arc_line : LineForm
arc_line = line_form (codes "a" ∷ []) (field 85 1 (Problem 0) ∷ field 86 1 (Problem 0) ∷ field 87 1 (Number LONGEST_ARC) ∷ []) (Problem 1)

-- This is the format of a `.gr` file whose M is at most `most`.
abbrev pub gr_up_to : ℕ → Format
gr_up_to most = record {
  problem = line_form (codes "p" ∷ codes "sp" ∷ []) (field 78 1 Vertex ∷ field 77 0 (Number most) ∷ []) (Number 1);
  items = arc_line ∷ [];
  needed = Problem 1;
}

-- This is the format of a `.gr` file.
abbrev pub gr : Format
gr = gr_up_to MOST_ARCS

-- An `.ss` file has the problem line `p aux sp ss K`, and K lines `s V`.
abbrev pub source_line : LineForm
source_line = line_form (codes "s" ∷ []) (field 86 1 Vertex ∷ []) (Problem 0)

-- This is the format of an `.ss` file.
abbrev pub ss : Format
ss = record {
  problem = line_form (codes "p" ∷ codes "aux" ∷ codes "sp" ∷ codes "ss" ∷ []) (field 75 0 (Number MOST_SOURCES) ∷ []) (Number 1);
  items = source_line ∷ [];
  needed = Problem 0;
}

-- A pairs file has the problem line `p pairs K`, and K lines `q S T`.
abbrev pub pair_line : LineForm
pair_line = line_form (codes "q" ∷ []) (field 83 1 Vertex ∷ field 84 1 Vertex ∷ []) (Problem 0)

-- This is the format of a pairs file.
abbrev pub pairs : Format
pairs = record {
  problem = line_form (codes "p" ∷ codes "pairs" ∷ []) (field 75 0 (Number MOST_SOURCES) ∷ []) (Number 1);
  items = pair_line ∷ [];
  needed = Problem 0;
}
