-- Plain lines: after the problem line they are read in the same way, whatever lines come before them.
use Rattle.std.specs.Prelude.{◌≡◌, ◌≤◌, ℕ, Bool, false, List, [], ◌∷◌, ◌++◌, length, slice_get, MatchBool, Option, Some, None, Result, Ok, Err}
use Rattle.std.specs.Borrow.{Bor}
use Rattle.std.specs.List.{AllByRecursion}
use Rattle.sp_text.specs.declared.rooms.TheConstants.{LONGEST_LINE}
use Rattle.sp_text.specs.declared.formats.Ranges.{Ranges}
use Rattle.sp_text.specs.declared.collecting.Keep.{Ghosts as Keeper}
use Rattle.sp_text.specs.declared.collecting.Collector.{Collector}
use Rattle.sp_text.specs.declared.feeding.Feeder.{Feeder}
use Rattle.sp_text.specs.declared.plain.PlainLine.{PlainLine}
use Rattle.sp_text.specs.declared.plain.PlainLine.TheVariants as plain_lines
use Rattle.sp_text.specs.Lines.{ended, rest}
use Rattle.sp_text.specs.Meaning.{IsFirstLine}
use Rattle.sp_text.specs.Formats.{Format}
use Rattle.sp_text.specs.Text.{ItemLine, Reading, Comment, Bad, IsProblem, IsItem, first_out, problem_of, items_of, reading, judge}
use Rattle.sp_text.specs.First.{first_after}
use Rattle.sp_text.specs.Collectors.{HasTakenLines}

-- An item of the first form, which isn't fresh and is of group 0. Its numbers are in their ranges.
pub record IsPlainItem (format : Format) (ranges : Ranges) (ps : List ℕ) (item : ItemLine) : Type 0 where
  pub form : slice_get format.items 0 ≡ Some item.form
  pub stale : item.form.fresh ≡ false
  pub group : item.form.group ≡ 0
  pub in_range : first_out ranges ps item.form.fields item.numbers ≡ None

-- The reading is that of a plain line.
abbrev pub IsPlainReading : Format → Ranges → List ℕ → Reading → Type 0
IsPlainReading format ranges ps Comment = Unit {0}
IsPlainReading format ranges ps Bad = ⊥
IsPlainReading format ranges ps (IsProblem ns) = ⊥
IsPlainReading format ranges ps (IsItem item) = IsPlainItem format ranges ps item

-- The line is a comment or such an item. After a problem line with these numbers its only possible fault is that there are
-- too many lines of its group, whatever other lines come before it.
pub record IsPlain (format : Format) (ranges : Ranges) (ps line : List ℕ) : Type 0 where
  pub short : length line ≤ LONGEST_LINE
  pub fits : IsPlainReading format ranges ps (reading format line)

-- The lines are plain, their number is `number`, and their items were kept.
pub record AreRead {K : Type 0} (format : Format) (ranges : Ranges) (Kept : K → List ItemLine → Type 0) (ps : List ℕ) (all : List (List ℕ)) (keep : K) (number : ℕ) : Type 0 where
  pub plain : AllByRecursion (IsPlain format ranges ps) all
  pub kept : Kept keep (items_of format all)
  pub is_number : number ≡ length all

-- The bytes are such lines, each with its LF.
pub record IsBlock {K : Type 0} (format : Format) (ranges : Ranges) (Kept : K → List ItemLine → Type 0) (ps block : List ℕ) (keep : K) (number : ℕ) : Type 0 where
  pub whole : rest block ≡ []
  pub read : AreRead format ranges Kept ps (ended block) keep number

-- The reader has read a problem line with these numbers.
abbrev pub HasProblem : {K V : Type 0} {keeper : Keeper K V} → Feeder (Collector K V keeper) → (ps : List ℕ) → Type 0
HasProblem reader ps = reader.taker.problem ≡ Some ps

-- This is what a plain line holds.
abbrev pub Spells : Format → Ranges → List ℕ → Reading → PlainLine → Type 0
Spells format ranges ps reading plain_lines.Comment = reading ≡ Comment
Spells format ranges ps reading (plain_lines.Item values) = (item : ItemLine) × (reading ≡ IsItem item) × (item.kind ≡ 0) × (item.numbers ≡ values) × IsPlainItem format ranges ps item

-- A collector finds that the line is plain, and what it holds.
abbrev pub FindsPlain : {K V : Type 0} {keeper : Keeper K V} → Collector K V keeper → (line : List ℕ) → PlainLine → Type 0
FindsPlain {keeper} collector line plain = (ps : List ℕ) × (collector.problem ≡ Some ps) × Spells keeper.format keeper.ranges ps (reading keeper.format line) plain

-- A collector finds that the first line of the text is plain, and what it holds; these bytes come after its LF.
abbrev pub FindsPlainFront : {K V : Type 0} {keeper : Keeper K V} → Collector K V keeper → (text : List ℕ) → PlainLine × Bor (List ℕ) → Type 0
FindsPlainFront {keeper} collector text (plain, more) = (line : List ℕ) × IsFirstLine text line more.now × (length line ≤ LONGEST_LINE) × FindsPlain collector line plain

-- The first line of the text is plain, and was kept after all others; these bytes come after its LF. Or nothing was
-- kept.
abbrev pub PlainTaken : {K E : Type 0} → Format → Ranges → (K → List ItemLine → Type 0) → (ps text : List ℕ) → (old new : K) → Result (Option (Bor (List ℕ))) E → Type 0
PlainTaken format ranges Kept ps text old new (Ok (Some more)) = (line : List ℕ) × IsFirstLine text line more.now × IsPlain format ranges ps line
    × ((all : List (List ℕ)) → Kept old (items_of format all) → Kept new (items_of format (all ++ line ∷ [])))
PlainTaken format ranges Kept ps text old new (Ok None) = new ≡ old
PlainTaken format ranges Kept ps text old new (Err e) = Unit {0}

-- The collector takes plain lines that were read separately, and none of them has a fault; or it stays as it was.
abbrev pub AddsItems : {K V : Type 0} {keeper : Keeper K V} → (keep : K) → (old : Collector K V keeper) → (added : Bool) → (new : Collector K V keeper) → Type 0
AddsItems {keeper} keep old added new = (before all : List (List ℕ)) (ps : List ℕ) (number : ℕ) → problem_of keeper.format before ≡ Some ps → HasTakenLines old before → AreRead keeper.format keeper.ranges keeper.Kept ps all keep number
    → MatchBool added ((first_after (judge keeper.format keeper.ranges) before all ≡ None) × HasTakenLines new (before ++ all)) (HasTakenLines new before)
