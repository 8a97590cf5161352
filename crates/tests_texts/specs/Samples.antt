-- A format to try the definitions and the engine on.
use Rattle.std.specs.Prelude.{◌≡◌, ℕ, true, false, List, [], ◌∷◌, map, slice_index, codes}
use Rattle.sp_text.specs.declared.formats.Top.TheVariants.{Number, Vertex, Dist, Problem}
use Rattle.sp_text.specs.declared.formats.Ranges.{Ranges}
use Rattle.sp_text.specs.Formats.{Format, field}
use Rattle.sp_text.specs.Text.{ItemLine}

-- the problem line `p sp N M`, M lines `a U V W`, and lines `i V D P` with a fresh V
abbrev pub sample : Format
sample = record {
  problem = record {
    words = codes "p" ∷ codes "sp" ∷ [];
    fields = field 78 1 Vertex ∷ field 77 0 (Number 1073741824) ∷ [];
    fresh = false;
    group = 0;
    limit = Number 1;
  };
  items =
      record {
        words = codes "a" ∷ [];
        fields = field 85 1 (Problem 0) ∷ field 86 1 (Problem 0) ∷ field 87 1 (Number 4294967295) ∷ [];
        fresh = false;
        group = 0;
        limit = Problem 1;
      } ∷
      record {
        words = codes "i" ∷ [];
        fields = field 86 1 (Problem 0) ∷ field 68 0 Dist ∷ field 80 0 Vertex ∷ [];
        fresh = true;
        group = 1;
        limit = Problem 0;
      } ∷ [];
  needed = Problem 1;
}

-- the ranges of vertices and distances for words of 28 bits of predecessor
abbrev pub usual : Ranges
usual = record { vertex = 268435454; dist = 68719476734 }

-- the place of an item's form, and its numbers
abbrev pub entry_of : ItemLine → ℕ × ℕ × ℕ × ℕ
entry_of item = (item.kind, slice_index item.numbers 0, slice_index item.numbers 1, slice_index item.numbers 2)

-- the entries are the items, each as the place of its form and its numbers
abbrev pub AreEntries : List ItemLine → List (ℕ × ℕ × ℕ × ℕ) → Type 0
AreEntries items entries = entries ≡ map entry_of items
