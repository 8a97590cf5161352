-- The line forms of replay files and of offers files.
use Rattle.std.specs.Prelude.{ℕ, true, false, List, [], ◌∷◌, codes}
use Rattle.sp_text.specs.declared.formats.Top.TheVariants.{Number, Dist, Vertex, Problem}
use Rattle.sp_text.specs.declared.formats.Field.{Field}
use Rattle.sp_text.specs.Formats.{LineForm, Format, field}
use Rattle.sp_replay.specs.declared.formats.TheConstants.{MOST_WORDS, MOST_ACTORS, MOST_ITEMS, MOST_STEPS, LONGEST_ARC}

-- V is from 1 to N.
abbrev pub vertex : Field
vertex = field 86 1 (Problem 0)

-- A is from 1 to K.
abbrev pub actor : Field
actor = field 65 1 (Problem 1)

-- This is the field of a distance.
abbrev pub dist : Field
dist = field 68 0 Dist

-- This is the field of a predecessor.
abbrev pub pred : Field
pred = field 80 0 Vertex

-- This is the problem line `p WORD N K`.
abbrev pub actors_line : List ℕ → LineForm
actors_line word = record {
  words = codes "p" ∷ word ∷ [];
  fields = field 78 1 (Number MOST_WORDS) ∷ field 75 1 (Number MOST_ACTORS) ∷ [];
  fresh = false;
  group = 0;
  limit = Number 1;
}

-- This is `i V D P`, with a different V in each line.
abbrev pub start_line : LineForm
start_line = record { words = codes "i" ∷ []; fields = vertex ∷ dist ∷ pred ∷ []; fresh = true; group = 1; limit = Problem 0 }

-- An item line has its word, and its fields.
abbrev pub item_line : List ℕ → List Field → LineForm
item_line word fields = record { words = word ∷ []; fields = fields; fresh = false; group = 0; limit = Number MOST_ITEMS }

-- This is the line `o A V D P` of an offer.
abbrev pub offer_line : LineForm
offer_line = item_line (codes "o") (actor ∷ vertex ∷ dist ∷ pred ∷ [])

-- This is the line `r A V` of a read.
abbrev pub read_line : LineForm
read_line = item_line (codes "r") (actor ∷ vertex ∷ [])

-- This is the line `a A U V L` of a relaxation.
abbrev pub relax_line : LineForm
relax_line = item_line (codes "a") (actor ∷ field 85 1 (Problem 0) ∷ vertex ∷ field 76 1 (Number LONGEST_ARC) ∷ [])

-- This is the line `s A` of a step.
abbrev pub step_line : LineForm
step_line = record { words = codes "s" ∷ []; fields = actor ∷ []; fresh = false; group = 2; limit = Number MOST_STEPS }

-- This is `p WORD N K`, and lines of these forms in any order.
abbrev pub actors_file : List ℕ → List LineForm → Format
actors_file word forms = record { problem = actors_line word; items = forms; needed = Number 0 }

-- These are the forms of the lines of a replay file.
abbrev pub replay_lines : List LineForm
replay_lines = start_line ∷ offer_line ∷ read_line ∷ relax_line ∷ step_line ∷ []

-- A replay file has `p rep N K`, and the other lines in any order.
abbrev pub replay : Format
replay = actors_file (codes "rep") replay_lines

-- An offers file has `p off N K`, and the offers.
abbrev pub offers : Format
offers = actors_file (codes "off") (offer_line ∷ [])
