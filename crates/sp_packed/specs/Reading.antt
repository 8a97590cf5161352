-- The parts of a packed text, as they are read.
use Rattle.std.specs.Prelude.{◌≡◌, ℕ, ◌<◌, ◌≤◌, ◌^◌, zero, suc, Bool, List, [], ◌∷◌, ◌++◌, length, Option}
use Rattle.std.specs.Io.KnownBytes.{Consumes, IsAtEnd}
use Rattle.sp_paths.specs.declared.arc.Arc.{Arc}
use Rattle.sp_packed.specs.declared.word_sums.Sum.{Sum}
use Rattle.sp_packed.specs.declared.faults.PackedFault.{PackedFault}
use Rattle.sp_packed.specs.Words.{words, sum_on, no_sum}
use Rattle.sp_packed.specs.Packed.{head_words, content, with_sum}
use Rattle.sp_packed.specs.Ends.{AreEnds}
use Rattle.sp_packed.specs.Rows.{AreRows}
use Rattle.sp_packed.specs.Parts.{AreParts}
use Rattle.sp_packed.specs.Faults.{Tells}

-- These are the words of the head, and the 0 of row 0.
abbrev pub front_words : (n m : ℕ) → List ℕ
front_words n m = head_words n m ++ (0 ∷ [])

-- These are a number of vertices and a number of arcs within the limits.
pub record AreCounts (top most n m : ℕ) : Type 0 where
  pub some : 1 ≤ n
  pub n_fits : n < 2 ^ 32
  pub n_within : n ≤ top
  pub m_fits : m < 2 ^ 32
  pub m_within : m ≤ most

-- This may be the word that k words precede, if it is one of the first five.
abbrev pub IsFrontWord : (top most k w : ℕ) → Type 0
IsFrontWord top most zero w = w ≡ 0x54505389
IsFrontWord top most (suc zero) w = w ≡ 0x011A0A0D
IsFrontWord top most (suc (suc zero)) w = (1 ≤ w) × (w ≤ top)
IsFrontWord top most (suc (suc (suc zero))) w = w ≤ most
IsFrontWord top most (suc (suc (suc (suc k)))) w = w ≡ 0

-- The text spelled these numbers of vertices and of arcs.
pub record HasFront (top most : ℕ) (old new : Option (List ℕ)) (before after : Sum) (n m : ℕ) : Type 0 where
  pub counts : AreCounts top most n m
  pub took : Consumes old new (words (front_words n m))
  pub sum : after ≡ sum_on before (front_words n m)

-- What came since then shows this fault.
abbrev pub Told : (top most : ℕ) (old new : Option (List ℕ)) (has_failed : Bool) (e : PackedFault) → Type 0
Told top most old new has_failed e = (came : List ℕ) × Consumes old new came × Tells top most came new has_failed e

-- What came after these words shows this fault. The words may begin a text of n vertices and m arcs.
abbrev pub ToldBehind : (before : List ℕ) (n m : ℕ) (old new : Option (List ℕ)) (has_failed : Bool) (e : PackedFault) → Type 0
ToldBehind before n m old new has_failed e =
    (top most : ℕ) (start : Option (List ℕ)) → AreCounts top most n m → Consumes start old (words before) → Told top most start new has_failed e

-- What came after the content of a graph of n vertices and m arcs, which has this sum, shows this fault.
abbrev pub ToldOfSum : (sum : Sum) (n m : ℕ) (old new : Option (List ℕ)) (has_failed : Bool) (e : PackedFault) → Type 0
ToldOfSum sum n m old new has_failed e =
    (ends : List ℕ) (arcs : List Arc) → AreEnds n m ends → AreRows n ends arcs → length arcs ≡ m → sum ≡ sum_on no_sum (content n ends arcs)
    → ToldBehind (content n ends arcs) n m old new has_failed e

-- A text spelled the parts of a graph within the limits, and ended.
pub record HasParts (top most : ℕ) (old new : Option (List ℕ)) (n : ℕ) (arcs : List Arc) : Type 0 where
  pub ends : List ℕ
  pub parts : AreParts top most n ends arcs
  pub took : Consumes old new (words (with_sum (content n ends arcs)))
  pub ended : IsAtEnd new
