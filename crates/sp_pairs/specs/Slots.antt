-- What is known of pairs while their answers are found.
use Rattle.std.specs.Prelude.{◌≡◌, ◌<◌, ℕ, Bool, true, false, List, [], ◌∷◌, length, slice_index, slice_index_or, All, Result, Ok, Err}
use Rattle.std.specs.Io.KnownBytes.{Appends}
use Rattle.sp_device.specs.declared.devices.Write.{Ghosts as Writer}
use Rattle.sp_device.specs.Devices.{IsBegun}
use Rattle.sp_jobs.specs.declared.answers.Summary.{Summary}
use Rattle.sp_jobs.specs.declared.answers.BatchError.{BatchError}
use Rattle.sp_jobs.specs.declared.answers.BatchError.TheVariants.{Write}
use Rattle.sp_paths.specs.Paths.{Graph, IsVertex}
use Rattle.sp_pairs.specs.declared.asking.PairState.{PairState}
use Rattle.sp_pairs.specs.declared.asking.PairState.TheVariants.{Open, Known}
use Rattle.sp_jobs.specs.PairAnswers.{PairKind, pairs_text, IsPairsSummary}

-- ## One slot

-- when something is the answer for a target of a source in a graph
abbrev pub AnswerIn : Type 0 → Type 1
AnswerIn A = Graph → (s t : ℕ) → A → Type 0

-- no answer is known
abbrev pub IsOpen : {A : Type 0} → PairState A → Type 0
IsOpen (Open next) = Unit {0}
IsOpen (Known answer) = ⊥

-- an answer is known
abbrev pub IsClosed : {A : Type 0} → PairState A → Type 0
IsClosed (Open next) = ⊥
IsClosed (Known answer) = Unit {0}

-- where an answer is known, it is the pair's
abbrev pub IsHeld : {A : Type 0} → AnswerIn A → Graph → ℕ × ℕ → PairState A → Type 0
IsHeld Is g pair (Open next) = Unit {0}
IsHeld Is g pair (Known answer) = Is g pair.0 pair.1 answer

-- ## All slots

-- the pair at a place
abbrev pub pair_at : List (ℕ × ℕ) → (place : ℕ) → ℕ × ℕ
pair_at pairs place = slice_index_or pairs place (0, 0)

-- source and target are vertices
abbrev pub IsPairOf : (n : ℕ) → ℕ × ℕ → Type 0
IsPairOf n pair = IsVertex n pair.0 × IsVertex n pair.1

-- Each pair has a slot, and no answer is known.
pub record AreAllOpen {A : Type 0} (pairs : List (ℕ × ℕ)) (slots : List (PairState A)) : Type 0 where
  pub size : length slots ≡ length pairs
  pub each : All IsOpen slots

-- Each pair has a slot, and the answers that are known are the pairs'.
pub record AreHeld {A : Type 0} (Is : AnswerIn A) (g : Graph) (pairs : List (ℕ × ℕ)) (slots : List (PairState A)) : Type 0 where
  pub size : length slots ≡ length pairs
  pub held : (i : ℕ) (slot : PairState A) → i < length slots → IsHeld Is g (pair_at pairs i) (slice_index_or slots i slot)

-- The answer at this place is known.
abbrev pub IsClosedAt : {A : Type 0} → (place : ℕ) → List (PairState A) → Type 0
IsClosedAt {A} place slots = (slot : PairState A) → IsClosed (slice_index_or slots place slot)

-- Of the first pairs the answers are known.
abbrev pub AreFirstClosed : {A : Type 0} → (count : ℕ) → List (PairState A) → Type 0
AreFirstClosed count slots = (i : ℕ) → i < count → i < length slots → IsClosedAt i slots

-- What was known stays known.
pub record StayClosed {A : Type 0} (old new : List (PairState A)) : Type 0 where
  pub size : length new ≡ length old
  pub stay : (i : ℕ) → i < length old → IsClosedAt i old → IsClosedAt i new

-- ## A run from the source of a pair

-- a later place
pub record IsPlaceBehind (place : ℕ) (pairs : List (ℕ × ℕ)) (next : ℕ) : Type 0 where
  pub later : place < next
  pub within : next < length pairs

-- They are vertices, and the first of them is the pair's own.
pub record AreTargetsOf (n : ℕ) (pair : ℕ × ℕ) (targets : List ℕ) : Type 0 where
  pub some : 0 < length targets
  pub first : slice_index targets 0 ≡ pair.1
  pub vertices : All (IsVertex n) targets

-- ## Lines

-- the answers that are known, in their order
abbrev pub known_in : {A : Type 0} → List (PairState A) → List A
known_in [] = []
known_in (Open next ∷ slots) = known_in slots
known_in (Known answer ∷ slots) = answer ∷ known_in slots

-- the line of a pair, if its answer is known and tells that
abbrev pub line_in : {A : Type 0} → (kind : PairKind) → (A → kind.Answer) → ℕ × ℕ → PairState A → List ℕ
line_in kind told pair (Open next) = []
line_in kind told pair (Known answer) = kind.text pair (told answer)

-- the answer is known, and tells a vertex that is too far
abbrev pub is_far_slot : {A : Type 0} → (kind : PairKind) → (A → kind.Answer) → PairState A → Bool
is_far_slot kind told (Open next) = false
is_far_slot kind told (Known answer) = kind.is_too_far (told answer)

-- Exactly the text of the answers was written, and it was counted; or the writer failed, and a beginning of the text stands.
abbrev pub ArePairsWritten : {W : Type 0} → (kind : PairKind) → Writer W → List (ℕ × ℕ) → List kind.Answer → W → Result Summary BatchError → W → Type 0
ArePairsWritten kind device pairs answers old (Ok summary) new = Appends (device.written old) (device.written new) (pairs_text kind pairs answers) × IsPairsSummary kind pairs answers summary
ArePairsWritten kind device pairs answers old (Err Write) new = IsBegun (pairs_text kind pairs answers) (device.written old) (device.written new) × (device.has_failed new ≡ true)
ArePairsWritten kind device pairs answers old (Err e) new = ⊥
