-- The sources that a text spells.
use Rattle.std.specs.Prelude.{◌≡◌, ◌≤◌, ℕ, Bool, List, map, length, slice_index, All, Option, Result}
use Rattle.sp_word.specs.Word.{max_pred}
use Rattle.sp_text.specs.declared.faults.DimacsError.{DimacsError}
use Rattle.sp_text.specs.Text.{ItemLine, Spells, judge}
use Rattle.sp_text.specs.Collecting.{SpelledBy}
use Rattle.sp_text.specs.Whole.{AllRead}
use Rattle.sp_text.specs.Formats.{ranges_of}
use Rattle.sp_dimacs.specs.declared.formats.TheConstants.{MOST_SOURCES}
use Rattle.sp_dimacs.specs.Formats.{ss}
use Rattle.sp_dimacs.specs.declared.sources.SsFile.{SsFile}

-- This is the source of a line `s V`.
abbrev pub source_of : ItemLine → ℕ
source_of item = slice_index item.numbers 0

-- The file holds the sources in the order of their lines.
abbrev pub AreSources : List ℕ → List ItemLine → SsFile → Type 0
AreSources problem items file = file.sources.items ≡ map source_of items

-- The text has no fault, and spells these sources.
abbrev pub SpellsSources : ℕ → List ℕ → SsFile → Type 0
SpellsSources P text file = (problem : List ℕ) × (items : List ItemLine) × Spells ss (ranges_of P) text problem items × AreSources problem items file

-- This is the result for the whole text of a device, part of which may be left.
abbrev pub SourcesRead : ℕ → List ℕ → Option (List ℕ) → Bool → Result SsFile DimacsError → Type 0
SourcesRead P text left has_failed result = AllRead (judge ss (ranges_of P)) (SpelledBy ss AreSources) text left has_failed result

-- A word of the layout can name the vertex.
pub record IsVertex (P : ℕ) (vertex : ℕ) : Type 0 where
  pub least : 1 ≤ vertex
  pub most : vertex ≤ max_pred P

-- There are no more sources than the format allows, and a word of the layout can name each of them.
pub record AreSourcesWithin (P : ℕ) (file : SsFile) : Type 0 where
  pub short : length file.sources.items ≤ MOST_SOURCES
  pub sources : All (IsVertex P) file.sources.items
