-- Parts of a text, each read by itself.
use Rattle.std.specs.Prelude.{◌≡◌, ◌+◌, ◌≤◌, ◌^◌, ℕ, Bool, true, false, List, ◌++◌, length, take, drop, slice_range, Option, Some, Result, Ok, Err}
use Rattle.std.specs.List.{All}
use Rattle.sp_text.specs.declared.formats.Ranges.{Ranges}
use Rattle.sp_text.specs.declared.collecting.Keep.{Ghosts as Keeper}
use Rattle.sp_text.specs.declared.collecting.Collector.{Collector}
use Rattle.sp_text.specs.declared.feeding.Feeder.{Feeder}
use Rattle.sp_text.specs.declared.faults.DimacsError.{DimacsError}
use Rattle.sp_text.specs.Formats.{Format}
use Rattle.sp_text.specs.Lines.{ended}
use Rattle.sp_text.specs.Text.{ItemLine, judge, problem_of}
use Rattle.sp_text.specs.Collectors.{HasTakenLines}
use Rattle.sp_text.specs.Feeding.{IsBehind, Fed}
use Rattle.sp_text.specs.Plain.{IsBlock, HasProblem}
use Rattle.sp_parts.specs.declared.parts.Part.{Part}

-- The part was read from whole plain lines of the text, from one position to another.
pub record IsPartOf {K : Type 0} (format : Format) (ranges : Ranges) (Kept : K → List ItemLine → Type 0) (ps text : List ℕ) (part : Part K) : Type 0 where
  pub order : part.from ≤ part.to
  pub within : part.to ≤ length text
  pub block : IsBlock format ranges Kept ps (slice_range text part.from part.to) part.keep part.lines

-- The part was read from the text, after the problem line of the reader.
abbrev pub IsPart : {K V : Type 0} {keeper : Keeper K V} → Feeder (Collector K V keeper) → (text : List ℕ) → Part K → Type 0
IsPart {keeper} reader text part = (ps : List ℕ) → HasProblem reader ps → IsPartOf keeper.format keeper.ranges keeper.Kept ps text part

-- The reader takes a text from which these parts were read, or refuses it, whatever it has read before.
abbrev pub TakesParts : {K V U : Type 0} {keeper : Keeper K V} → (text : List ℕ) → List (Part K) → (old : Feeder (Collector K V keeper)) → Result U DimacsError → (new : Feeder (Collector K V keeper)) → Type 0
TakesParts {keeper} text parts old result new =
    (front ps : List ℕ) → length (front ++ text) ≤ 2 ^ 62 → problem_of keeper.format (ended front) ≡ Some ps → All (IsPartOf keeper.format keeper.ranges keeper.Kept ps text) parts
    → IsBehind (judge keeper.format keeper.ranges) HasTakenLines front old → Fed (judge keeper.format keeper.ranges) HasTakenLines (ended front) (front ++ text) result new

-- The parts were read from the text, after a problem line with these numbers, if there was one.
abbrev pub AreParts : {K : Type 0} → Format → Ranges → (K → List ItemLine → Type 0) → (problem : Option (List ℕ)) → (text : List ℕ) → List (Part K) → Type 0
AreParts format ranges Kept problem text parts = (ps : List ℕ) → problem ≡ Some ps → All (IsPartOf format ranges Kept ps text) parts

-- These bytes are at this position of the text, if the text is known.
abbrev pub IsAt : (source : Option (List ℕ)) → (start : ℕ) → (bytes : List ℕ) → Type 0
IsAt source start bytes = (text : List ℕ) → source ≡ Some text → take (length bytes) (drop start text) ≡ bytes

-- The reader takes a piece of a text after this problem line, or refuses it, whatever it has read before.
abbrev pub TakesPiece : {K V U : Type 0} {keeper : Keeper K V} → (problem : Option (List ℕ)) → (bytes : List ℕ) → (old : Feeder (Collector K V keeper)) → Result U DimacsError → (new : Feeder (Collector K V keeper)) → Type 0
TakesPiece {keeper} problem bytes old result new =
    (front ps : List ℕ) → length (front ++ bytes) ≤ 2 ^ 62 → problem ≡ Some ps → problem_of keeper.format (ended front) ≡ Some ps
    → IsBehind (judge keeper.format keeper.ranges) HasTakenLines front old → Fed (judge keeper.format keeper.ranges) HasTakenLines (ended front) (front ++ bytes) result new

-- The bytes follow those that were taken, and have come.
pub record IsNext (source : Option (List ℕ)) (came taken : ℕ) (bytes : List ℕ) : Type 0 where
  pub place : IsAt source taken bytes
  pub within : taken + length bytes ≤ came

-- The reader takes the next piece, or refuses it; or no piece is taken.
abbrev pub TakesNext : {K V : Type 0} {keeper : Keeper K V} → (source problem : Option (List ℕ)) → (came taken later : ℕ) → (old : Feeder (Collector K V keeper)) → Result Bool DimacsError → (new : Feeder (Collector K V keeper)) → Type 0
TakesNext source problem came taken later old (Ok false) new = (later ≡ taken) × (new ≡ old)
TakesNext source problem came taken later old (Ok true) new = (bytes : List ℕ) × IsNext source came taken bytes × (later ≡ taken + length bytes) × TakesPiece {U = Unit {0}} problem bytes old (Ok tt) new
TakesNext source problem came taken later old (Err e) new = (bytes : List ℕ) × IsNext source came taken bytes × TakesPiece {U = Unit {0}} problem bytes old (Err e) new
