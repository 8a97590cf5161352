-- The pairs that a text spells.
use Rattle.std.specs.Prelude.{◌≡◌, ◌≤◌, ℕ, Bool, List, map, length, slice_index, All, Option, Result}
use Rattle.sp_word.specs.Word.{max_pred}
use Rattle.sp_text.specs.declared.faults.DimacsError.{DimacsError}
use Rattle.sp_text.specs.Text.{ItemLine, Spells, judge}
use Rattle.sp_text.specs.Collecting.{SpelledBy}
use Rattle.sp_text.specs.Whole.{AllRead}
use Rattle.sp_text.specs.Formats.{ranges_of}
use Rattle.sp_dimacs.specs.declared.formats.TheConstants.{MOST_SOURCES}
use Rattle.sp_dimacs.specs.Formats.{pairs}
use Rattle.sp_dimacs.specs.declared.pairs.PairsFile.{PairsFile}

-- This is the pair of a line `q S T`.
abbrev pub pair_of : ItemLine → ℕ × ℕ
pair_of item = (slice_index item.numbers 0, slice_index item.numbers 1)

-- The file holds the pairs in the order of their lines.
abbrev pub ArePairs : List ℕ → List ItemLine → PairsFile → Type 0
ArePairs problem items file = file.pairs.items ≡ map pair_of items

-- The text has no fault, and spells these pairs.
abbrev pub SpellsPairs : ℕ → List ℕ → PairsFile → Type 0
SpellsPairs P text file = (problem : List ℕ) × (items : List ItemLine) × Spells pairs (ranges_of P) text problem items × ArePairs problem items file

-- This is the result for the whole text of a device, part of which may be left.
abbrev pub PairsRead : ℕ → List ℕ → Option (List ℕ) → Bool → Result PairsFile DimacsError → Type 0
PairsRead P text left has_failed result = AllRead (judge pairs (ranges_of P)) (SpelledBy pairs ArePairs) text left has_failed result

-- A word of the layout can name both vertices.
pub record IsPairWithin (P : ℕ) (pair : ℕ × ℕ) : Type 0 where
  pub source_least : 1 ≤ pair.0
  pub source_most : pair.0 ≤ max_pred P
  pub target_least : 1 ≤ pair.1
  pub target_most : pair.1 ≤ max_pred P

-- There are no more pairs than the format allows, and a word of the layout can name each of their vertices.
pub record ArePairsWithin (P : ℕ) (file : PairsFile) : Type 0 where
  pub short : length file.pairs.items ≤ MOST_SOURCES
  pub pairs : All (IsPairWithin P) file.pairs.items
