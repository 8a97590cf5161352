-- What a collector has taken, and what it answers to a line.
use Rattle.std.specs.Prelude.{◌≡◌, ℕ, ◌≤◌, Bool, true, false, List, [], ◌∷◌, ◌++◌, length, slice_get, Option, Some, Result}
use Rattle.std.specs.Borrow.{Bor}
use Rattle.sp_text.specs.declared.faults.Kind.{Kind}
use Rattle.sp_text.specs.declared.formats.Form.{Form}
use Rattle.sp_text.specs.declared.matching.Numbers.{Numbers}
use Rattle.sp_text.specs.declared.collecting.Keep.{Ghosts as Keeper}
use Rattle.sp_text.specs.declared.collecting.Collector.{Collector}
use Rattle.sp_text.specs.Formats.{form_of}
use Rattle.sp_text.specs.Text.{ItemLine, judge, reading, problem_fault, placed_fault}
use Rattle.sp_text.specs.Meaning.{IsFirstLine}
use Rattle.sp_text.specs.Feeding.{Takes}
use Rattle.sp_text.specs.Collecting.{IsAfter, Holds, Answers, ItemIs}
use Rattle.sp_text.specs.Matching.{Are, IsUsualItem, IsFrontItem}

-- The collector has taken this problem line and these items.
abbrev pub HasTaken : {K V : Type 0} {keeper : Keeper K V} → Collector K V keeper → (problem : Option (List ℕ)) → (items : List ItemLine) → Type 0
HasTaken {keeper} collector problem items = Holds keeper.Kept problem items collector.keep collector.problem collector.counts

-- The collector has taken these lines.
abbrev pub HasTakenLines : {K V : Type 0} {keeper : Keeper K V} → Collector K V keeper → (lines : List (List ℕ)) → Type 0
HasTakenLines {keeper} collector lines = IsAfter keeper.format keeper.Kept lines collector.keep collector.problem collector.counts

-- This is the answer to a line that is read in this way and may need memory. If it has no fault, the collector has then
-- taken this problem line and these items.
abbrev pub Answered : {K V U : Type 0} {keeper : Keeper K V} → (is_item : Bool) → (fault : Option Kind) → (problem : Option (List ℕ)) → (items : List ItemLine) → Result U Kind → Collector K V keeper → Type 0
Answered {keeper} is_item fault problem items result new = Answers keeper.Kept is_item fault problem items result new.keep new.problem new.counts

-- The line spells this item, and its numbers are in their ranges.
abbrev pub FindsItem : {K V : Type 0} {keeper : Keeper K V} → Collector K V keeper → (line : List ℕ) → ℕ × Bor Form × List ℕ → Type 0
FindsItem {keeper} collector line found = (ps : List ℕ) × (collector.problem ≡ Some ps) × IsUsualItem keeper.format keeper.ranges ps (reading keeper.format line) found

-- The first line of the text spells the item, and its numbers are in their ranges.
abbrev pub FindsFrontItem : {K V : Type 0} {keeper : Keeper K V} → Collector K V keeper → (text : List ℕ) → ℕ × Bor Form × List ℕ × Bor (List ℕ) → Type 0
FindsFrontItem {keeper} collector text found = (ps : List ℕ) × (collector.problem ≡ Some ps) × IsFrontItem keeper.format keeper.ranges ps text found

-- An item of the form at this index has these numbers.
abbrev pub IsOfItem : {K V : Type 0} {keeper : Keeper K V} → Collector K V keeper → (place : ℕ) → Form → Numbers → Type 0
IsOfItem {keeper} collector place form numbers =
    (item : ItemLine) × (slice_get keeper.format.items place ≡ Some item.form) × (item.form ≡ form_of form) × ItemIs keeper.ranges collector.problem item numbers

-- The collector takes a problem line with these numbers, or refuses it, whatever it has taken before.
abbrev pub TakesProblem : {K V U : Type 0} {keeper : Keeper K V} → Numbers → (old : Collector K V keeper) → Result U Kind → (new : Collector K V keeper) → Type 0
TakesProblem {keeper} numbers old result new =
    (problem : Option (List ℕ)) (items : List ItemLine) (ns : List ℕ) → HasTaken old problem items → Are keeper.ranges [] keeper.format.problem.fields ns numbers → Answered false (problem_fault keeper.format keeper.ranges problem ns) (Some ns) items result new

-- The collector takes an item of the form at this index with these numbers, or refuses it, whatever it has taken before.
abbrev pub TakesItem : {K V U : Type 0} {keeper : Keeper K V} → (place : ℕ) → Form → Numbers → (old : Collector K V keeper) → Result U Kind → (new : Collector K V keeper) → Type 0
TakesItem {keeper} place form numbers old result new =
    (problem : Option (List ℕ)) (items : List ItemLine) (item : ItemLine) → HasTaken old problem items → item.kind ≡ place → slice_get keeper.format.items place ≡ Some item.form → item.form ≡ form_of form
    → ItemIs keeper.ranges problem item numbers → Answered true (placed_fault keeper.ranges problem items item) problem (items ++ item ∷ []) result new

-- The collector takes this line, or refuses it, whatever it has taken before.
abbrev pub TakesLine : {K V U : Type 0} {keeper : Keeper K V} → (line : List ℕ) → (old : Collector K V keeper) → Result U Kind → (new : Collector K V keeper) → Type 0
TakesLine {keeper} line old result new = (before : List (List ℕ)) → HasTakenLines old before → Takes (judge keeper.format keeper.ranges) HasTakenLines before line result new

-- The collector takes the first line of the text, which isn't too long, or refuses it; these bytes come after its LF.
abbrev pub TakesFront : {K V U : Type 0} {keeper : Keeper K V} → (text : List ℕ) → (old new : Collector K V keeper) → Result U Kind × Bor (List ℕ) → Type 0
TakesFront {keeper} text old new (result, more) = (line : List ℕ) × IsFirstLine text line more.now × (length line ≤ 1024) × TakesLine line old result new
