-- What a call tells C about packed bytes, and about a graph that is packed.
use Rattle.std.specs.Prelude.{◌≡◌, ◌<◌, ◌^◌, ℕ, List, ◌++◌, Bool, length, drop, Result, Ok, Err}
use Rattle.std.specs.declared.option.Option.{Option}
use Rattle.std.specs.declared.option.Option.TheVariants.{None, Some}
use Rattle.sp_word.specs.Word.{max_pred}
use Rattle.sp_paths.specs.Paths.{Graph}
use Rattle.sp_dimacs.specs.declared.formats.TheConstants.{MOST_ARCS}
use Rattle.sp_packed.specs.declared.faults.PackedFault.{PackedFault}
use Rattle.sp_packed.specs.declared.faults.PackedKind.{PackedKind}
use Rattle.sp_packed.specs.declared.faults.PackedKind.TheVariants as kind
use Rattle.sp_packed.specs.declared.faults.PackedField.TheVariants.{Vertices, Arcs, End, Head, Length}
use Rattle.sp_packed.specs.Packed.{packed_text, IsPackable, IsWithin}
use Rattle.sp_packed.specs.Faults.{PackedRead}
use Rattle.spt_c.specs.declared.packing.SptPacked.{SptPacked}
use Rattle.spt_c.specs.declared.packing.SptSaved.{SptSaved}
use Rattle.spt_c.specs.InUse.{packed_in_use, saved_in_use}
use Rattle.spt_c.specs.declared.packing.LoadAnswer.{LoadAnswer}
use Rattle.spt_c.specs.declared.packing.LoadAnswer.TheVariants as load
use Rattle.spt_c.specs.declared.packing.SaveAnswer.{SaveAnswer}
use Rattle.spt_c.specs.declared.packing.SaveAnswer.TheVariants as save

-- ## Numbers

-- These are the numbers of the kinds of faults, as in every message of the program.
abbrev pub kind_of : PackedKind → ℕ
kind_of (kind.OutOfRange field) = 5
kind_of kind.TooMany = 6
kind_of kind.TooFew = 7
kind_of kind.Memory = 8
kind_of kind.Read = 9
kind_of kind.OtherForm = 10
kind_of kind.OtherSum = 11

-- This is the letter of the field, N, M, E, V or W; or 0 if the fault isn't about a field.
abbrev pub letter_of : PackedKind → ℕ
letter_of (kind.OutOfRange Vertices) = 78
letter_of (kind.OutOfRange Arcs) = 77
letter_of (kind.OutOfRange End) = 69
letter_of (kind.OutOfRange Head) = 86
letter_of (kind.OutOfRange Length) = 87
letter_of kind.TooMany = 0
letter_of kind.TooFew = 0
letter_of kind.Memory = 0
letter_of kind.Read = 0
letter_of kind.OtherForm = 0
letter_of kind.OtherSum = 0

-- These are the numbers of the header.
abbrev pub packed_of : LoadAnswer → SptPacked
packed_of (load.Loaded n m) = record { status = 0; n = n; m = m; kind = 0; letter = 0; byte = 0 }
packed_of (load.Fault e) = record { status = 7; n = 0; m = 0; kind = kind_of e.kind; letter = letter_of e.kind; byte = e.at }
packed_of load.Long = record { status = 8; n = 0; m = 0; kind = 0; letter = 0; byte = 0 }
packed_of load.Memory = record { status = 6; n = 0; m = 0; kind = 0; letter = 0; byte = 0 }
packed_of load.InUse = packed_in_use

-- The result of packing in the form for C.
abbrev pub saved_of : SaveAnswer → SptSaved
saved_of (save.Saved count) = record { status = 0; count = count }
saved_of (save.FewPlaces count) = record { status = 1; count = count }
saved_of save.TooLarge = record { status = 1; count = 0 }
saved_of save.Memory = record { status = 6; count = 0 }
saved_of save.NoGraph = record { status = 10; count = 0 }
saved_of save.InUse = saved_in_use

-- ## A graph is loaded

-- The bytes are the packed text of this graph, which has at most as many arcs as a text may announce.
pub record IsPackedOf (g : Graph) (bytes : List ℕ) : Type 0 where
  pub packable : IsPackable g
  pub within : IsWithin (max_pred 32) MOST_ARCS g
  pub is : bytes ≡ packed_text g

-- This is the first fault of the bytes; or that of a word for which there was no memory.
pub record HasFault (bytes : List ℕ) (e : PackedFault) : Type 0 where
  pub left : Option (List ℕ)
  pub has_failed : Bool
  pub told : PackedRead (max_pred 32) MOST_ARCS bytes left has_failed (Err e)
  pub of_bytes : e.kind ≡ kind.Read → ⊥

-- The result of reading packed bytes: their graph, or their first error.
abbrev pub IsUnpacked : (bytes : List ℕ) → Result Graph PackedFault → Type 0
IsUnpacked bytes (Ok g) = IsPackedOf g bytes
IsUnpacked bytes (Err e) = HasFault bytes e

-- A word for which there was no memory is told without its place.
abbrev pub IsAnswerFor : PackedFault → LoadAnswer → Type 0
IsAnswerFor e (load.Fault told) = (told ≡ e) × (e.kind ≡ kind.Memory → ⊥)
IsAnswerFor e load.Memory = e.kind ≡ kind.Memory
IsAnswerFor e answer = ⊥

-- The graph of the bytes is kept, or the one that was kept before.
abbrev pub IsLoaded : (bytes : List ℕ) → (old new : Option Graph) → LoadAnswer → Type 0
IsLoaded bytes old new (load.Loaded n m) = (g : Graph) × IsPackedOf g bytes × (new ≡ Some g) × (n ≡ g.n) × (m ≡ length g.arcs)
IsLoaded bytes old new (load.Fault e) = HasFault bytes e × (e.kind ≡ kind.Memory → ⊥) × (new ≡ old)
IsLoaded bytes old new load.Long = (2 ^ 62 < length bytes) × (new ≡ old)
IsLoaded bytes old new load.Memory = new ≡ old
IsLoaded bytes old new load.InUse = ⊥

-- ## A graph is saved

-- The packed text of the graph that is kept is at the front of the slice, and everything after it is unchanged; or the slice is
-- unchanged, and it has too few places, or the graph too many arcs, or there is no graph.
abbrev pub IsSaved : Option Graph → (old new : List ℕ) → SaveAnswer → Type 0
IsSaved (Some g) old new (save.Saved count) = (count ≡ length (packed_text g)) × (new ≡ packed_text g ++ drop count old)
IsSaved (Some g) old new (save.FewPlaces count) = (count ≡ length (packed_text g)) × (length old < count) × (new ≡ old)
IsSaved (Some g) old new save.TooLarge = (MOST_ARCS < length g.arcs) × (new ≡ old)
IsSaved (Some g) old new save.Memory = new ≡ old
IsSaved None old new save.NoGraph = new ≡ old
IsSaved kept old new answer = ⊥
