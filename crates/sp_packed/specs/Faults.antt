-- The fault of a text that is not a packed graph.
use Rattle.std.specs.Prelude.{◌≡◌, ℕ, ◌+◌, ◌*◌, ◌<◌, ◌≤◌, Bool, true, List, [], ◌++◌, length, take, Option, Some, Result, Ok, Err, ⊤}
use Rattle.std.specs.Io.KnownBytes.{IsAtEnd}
use Rattle.sp_paths.specs.Paths.{Graph}
use Rattle.sp_packed.specs.declared.faults.PackedFault.{PackedFault}
use Rattle.sp_packed.specs.declared.faults.PackedKind.{PackedKind}
use Rattle.sp_packed.specs.declared.faults.PackedKind.TheVariants.{OtherForm, OutOfRange, OtherSum, TooMany, TooFew, Memory, Read}
use Rattle.sp_packed.specs.declared.faults.PackedField.TheVariants.{Vertices, Arcs, End, Head, Length}
use Rattle.sp_packed.specs.Packed.{packed_text, IsPackable, IsWithin}

-- The packed text of a graph within the limits begins with these bytes.
pub record BeginsBy (top most : ℕ) (g : Graph) (bytes : List ℕ) : Type 0 where
  pub packable : IsPackable g
  pub within : IsWithin top most g
  pub more : List ℕ
  pub is : packed_text g ≡ bytes ++ more

-- Some packed text begins with these bytes.
abbrev pub Begins : (top most : ℕ) (bytes : List ℕ) → Type 0
Begins top most bytes = (g : Graph) × BeginsBy top most g bytes

-- A fault of this kind may be reported at the word that k words precede, in a text of n vertices and m arcs.
abbrev pub IsPlace : PackedKind → (n m k : ℕ) → Type 0
IsPlace OtherForm n m k = k < 2
IsPlace (OutOfRange Vertices) n m k = k ≡ 2
IsPlace (OutOfRange Arcs) n m k = k ≡ 3
IsPlace (OutOfRange End) n m k = (4 ≤ k) × (k ≤ 4 + n)
IsPlace (OutOfRange Head) n m k = (j : ℕ) × (j < m) × (k ≡ 5 + n + 2 * j)
IsPlace (OutOfRange Length) n m k = (j : ℕ) × (j < m) × (k ≡ 5 + n + 2 * j + 1)
IsPlace OtherSum n m k = (5 + n + 2 * m ≤ k) × (k < 9 + n + 2 * m)
IsPlace TooMany n m k = k ≡ 9 + n + 2 * m
IsPlace TooFew n m k = k < 9 + n + 2 * m
IsPlace Memory n m k = k < 9 + n + 2 * m
IsPlace Read n m k = k ≤ 9 + n + 2 * m

-- A fault of this kind concerns a word of which all bytes came.
abbrev pub IsWordKind : PackedKind → Type 0
IsWordKind OtherForm = ⊤
IsWordKind (OutOfRange field) = ⊤
IsWordKind OtherSum = ⊤
IsWordKind TooMany = ⊥
IsWordKind TooFew = ⊥
IsWordKind Memory = ⊥
IsWordKind Read = ⊥

-- All of the word at this byte came, and no packed text has it after the words before it.
abbrev pub IsOther : (top most : ℕ) (came : List ℕ) (at : ℕ) → Type 0
IsOther top most came at = (at + 4 ≤ length came) × (Begins top most (take (at + 4) came) → ⊥)

-- The part of a text that came shows a fault of this kind at this byte: all of the word there came, and no packed text has
-- it there; bytes came after the sum; the text ended before or within the word; all of the word came, and some packed text has
-- it there, but there was no memory; or the device failed before all of the word came.
abbrev pub Shows : (top most : ℕ) (came : List ℕ) (left : Option (List ℕ)) (has_failed : Bool) (at : ℕ) → PackedKind → Type 0
Shows top most came left has_failed at OtherForm = IsOther top most came at
Shows top most came left has_failed at (OutOfRange field) = IsOther top most came at
Shows top most came left has_failed at OtherSum = IsOther top most came at
Shows top most came left has_failed at TooMany = at < length came
Shows top most came left has_failed at TooFew = (length came < at + 4) × IsAtEnd left
Shows top most came left has_failed at Memory = (at + 4 ≤ length came) × Begins top most (take (at + 4) came)
Shows top most came left has_failed at Read = (length came < at + 4) × (has_failed ≡ true)

-- This is the fault of a text, given the part that came: some packed text begins with the words before the fault, and the
-- part shows the fault.
pub record Tells (top most : ℕ) (came : List ℕ) (left : Option (List ℕ)) (has_failed : Bool) (e : PackedFault) : Type 0 where
  pub word : ℕ
  pub place : e.at ≡ 4 * word
  pub within : e.at ≤ length came
  pub graph : Graph
  pub begins : BeginsBy top most graph (take e.at came)
  pub kind : IsPlace e.kind graph.n (length graph.arcs) word
  pub shows : Shows top most came left has_failed e.at e.kind

-- This is the result for the whole text of a device: it is the packed text of this graph, and all of it was read; or a part of
-- it was read, which shows its fault.
abbrev pub PackedRead : (top most : ℕ) (text : List ℕ) (left : Option (List ℕ)) (has_failed : Bool) → Result Graph PackedFault → Type 0
PackedRead top most text left has_failed (Ok g) = (left ≡ Some []) × (text ≡ packed_text g)
PackedRead top most text left has_failed (Err e) = (came more : List ℕ) × (text ≡ came ++ more) × (left ≡ Some more) × Tells top most came left has_failed e
