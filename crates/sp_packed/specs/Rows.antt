-- The arcs of rows, as a text spells them.
use Rattle.std.specs.Prelude.{◌≡◌, ℕ, ◌+◌, ◌-◌, ◌*◌, ◌%◌, ◌<◌, ◌≤◌, ◌^◌, ◌⊎◌, Bool, true, false, List, ◌∷◌, ◌++◌, length, All, slice_index, slice_index_or, Option}
use Rattle.std.specs.Io.KnownBytes.{Consumes}
use Rattle.sp_paths.specs.declared.arc.Arc.{Arc}
use Rattle.sp_paths.specs.Paths.{IsArc}
use Rattle.sp_graph.specs.Order.{IsNoGreater, IsInOrder}
use Rattle.sp_packed.specs.declared.word_sums.Sum.{Sum}
use Rattle.sp_packed.specs.declared.faults.PackedFault.{PackedFault}
use Rattle.sp_packed.specs.declared.faults.PackedKind.TheVariants.{OutOfRange, TooFew, Memory, Read}
use Rattle.sp_packed.specs.declared.faults.PackedField.TheVariants.{Head, Length}
use Rattle.sp_packed.specs.Words.{words, sum_on}
use Rattle.sp_packed.specs.Packed.{arcs_words}

-- The arc at index k is in the row of t.
abbrev pub IsInRow : (ends : List ℕ) → (k t : ℕ) → Type 0
IsInRow ends k t = (slice_index ends (t - 1) ≤ k) × (k < slice_index ends t)

-- These are the first arcs of a graph whose rows end there.
pub record AreRows (n : ℕ) (ends : List ℕ) (arcs : List Arc) : Type 0 where
  pub arcs_are : All (IsArc n) arcs
  pub lengths : All (λ a. a.len < 2 ^ 32) arcs
  pub order : IsInOrder arcs
  pub rows : (k : ℕ) (d : Arc) → k < length arcs → IsInRow ends k (slice_index_or arcs k d).tail

-- The next arc is in the row of t or a later one.
pub record IsNextRow (n : ℕ) (ends : List ℕ) (k t : ℕ) : Type 0 where
  pub some : 1 ≤ t
  pub within : t ≤ n
  pub begun : slice_index ends (t - 1) ≤ k

-- An arc with this tail and this head may follow that one.
abbrev pub MayFollow : Arc → (tail head : ℕ) → Type 0
MayFollow last tail head = (last.tail < tail) ⊎ ((last.tail ≡ tail) × (last.head ≤ head))

-- The arc's head may follow these arcs.
pub record MayHead (n : ℕ) (arcs : List Arc) (a : Arc) : Type 0 where
  pub some : 1 ≤ a.head
  pub within : a.head ≤ n
  pub order : 1 ≤ length arcs → MayFollow (slice_index_or arcs (length arcs - 1) a) a.tail a.head

-- The arc may follow these.
pub record MayStand (n : ℕ) (arcs : List Arc) (a : Arc) : Type 0 where
  pub some : 1 ≤ a.head
  pub within : a.head ≤ n
  pub long : 1 ≤ a.len
  pub order : 1 ≤ length arcs → IsNoGreater (slice_index_or arcs (length arcs - 1) a) a

-- This is the tail, followed by the head.
abbrev pub arc_key : Arc → ℕ
arc_key a = a.tail * 2 ^ 32 + a.head

-- This is the key of the last arc, if there is one.
abbrev pub IsLastKey : List Arc → ℕ → Type 0
IsLastKey arcs key =
    (d : Arc) → 1 ≤ length arcs → let last = slice_index_or arcs (length arcs - 1) d in (key ≡ arc_key last) × (last.head < 2 ^ 32)

-- This is the number of words before the head of the arc at index k.
abbrev pub words_to : (n k : ℕ) → ℕ
words_to n k = 5 + n + 2 * k

-- An arc may not follow these: its head or its length is wrong, or there is no memory.
abbrev pub IsArcRefused : (n : ℕ) (arcs : List Arc) (a : Arc) (e : PackedFault) → Type 0
IsArcRefused n arcs a e =
    ((e ≡ record { at = 4 * words_to n (length arcs); kind = OutOfRange Head }) × (MayHead n arcs a → ⊥))
    ⊎ ((e ≡ record { at = 4 * (words_to n (length arcs) + 1); kind = OutOfRange Length }) × MayHead n arcs a × (MayStand n arcs a → ⊥))
    ⊎ ((e ≡ record { at = 4 * words_to n (length arcs); kind = Memory }) × MayStand n arcs a)

-- The arc is a next one by its row, with a length that fits.
pub record IsNext (n : ℕ) (ends : List ℕ) (arcs : List Arc) (a : Arc) : Type 0 where
  pub some : 1 ≤ a.tail
  pub within : a.tail ≤ n
  pub row : IsInRow ends (length arcs) a.tail
  pub fits : a.len < 2 ^ 32

-- Some of the arcs that the numbers spell were appended, and the next one was not.
pub record IsRefusedIn (n : ℕ) (ends : List ℕ) (arcs : List Arc) (numbers : List ℕ) (e : PackedFault) : Type 0 where
  pub added : List Arc
  pub arc : Arc
  pub rest : List ℕ
  pub spells : numbers ≡ arcs_words added ++ (arc.head ∷ arc.len ∷ rest)
  pub rows : AreRows n ends (arcs ++ added)
  pub next : IsNext n ends (arcs ++ added) arc
  pub refused : IsArcRefused n (arcs ++ added) arc e

-- After k words no more words came whole.
pub record IsCutAt (k : ℕ) (failed : Bool) (e : PackedFault) : Type 0 where
  pub at : e.at ≡ 4 * k
  pub few : failed ≡ false → e.kind ≡ TooFew
  pub read : failed ≡ true → e.kind ≡ Read

-- The numbers ended after these arcs: with a length; or with a head that may not follow; or with one that may.
abbrev pub IsCutIn : (n : ℕ) (ends : List ℕ) (arcs : List Arc) (numbers : List ℕ) (failed : Bool) (e : PackedFault) → Type 0
IsCutIn n ends arcs numbers failed e =
    ((length numbers % 2 ≡ 0) × IsCutAt (words_to n (length arcs)) failed e)
    ⊎ ((a : Arc) × (length numbers % 2 ≡ 1) × (a.head ≡ slice_index numbers (length numbers - 1)) × IsNext n ends arcs a
    × (((e ≡ record { at = 4 * words_to n (length arcs); kind = OutOfRange Head }) × (MayHead n arcs a → ⊥))
    ⊎ (MayHead n arcs a × IsCutAt (words_to n (length arcs) + 1) failed e)))

-- The text spelled these arcs.
pub record HasRows (old new : Option (List ℕ)) (before after : Sum) (arcs : List Arc) : Type 0 where
  pub took : Consumes old new (words (arcs_words arcs))
  pub sum : after ≡ sum_on before (arcs_words arcs)
