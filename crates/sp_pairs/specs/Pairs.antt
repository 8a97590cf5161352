-- What is written for a list of pairs, a source and a target each. What is told of a pair is its word or its route: that is the kind.
use Rattle.std.specs.Prelude.{◌≡◌, ◌<◌, ◌≤◌, ◌⊎◌, ℕ, List, slice_get, All, Some, Result, Err}
use Rattle.sp_device.specs.Failing.{Failing}
use Rattle.sp_device.specs.declared.devices.Read.{Ghosts as Reader}
use Rattle.sp_text.specs.declared.faults.DimacsError.{DimacsError}
use Rattle.sp_paths.specs.Paths.{Graph}
use Rattle.sp_dimacs.specs.declared.pairs.PairsFile.{PairsFile}
use Rattle.sp_dimacs.specs.Pairs.{SpellsPairs, PairsRead}
use Rattle.sp_network.specs.declared.directions.Direction.{Direction}
use Rattle.sp_jobs.specs.declared.answers.Summary.{Summary}
use Rattle.sp_jobs.specs.declared.answers.Role.{Role}
use Rattle.sp_jobs.specs.declared.answers.Role.TheVariants.{Source, Target}
use Rattle.sp_jobs.specs.declared.answers.BatchError.{BatchError}
use Rattle.sp_jobs.specs.declared.answers.BatchError.TheVariants.{Gr, Pairs}
use Rattle.sp_jobs.specs.Listing.{MayRead}
use Rattle.sp_jobs.specs.Network.{SpellsGraph, HoldsGraph, GraphFault, MayReadGraph, IsGraphRefused}
use Rattle.sp_jobs.specs.Answered.{Wrote, IsUnwritten, IsEnd}
use Rattle.sp_jobs.specs.PairAnswers.{PairKind, AreLinesWritten, HasBegunPairs}

-- ## Vertices

-- both numbers are at most n
abbrev pub IsPairUpTo : (n : ℕ) → ℕ × ℕ → Type 0
IsPairUpTo n pair = (pair.0 ≤ n) × (pair.1 ≤ n)

-- the first number of a pair that is above n, the source before the target, and which of the two it is
abbrev pub IsFirstOfPair : (n : ℕ) → ℕ × ℕ → (v : ℕ) → Role → Type 0
IsFirstOfPair n pair v role = (n < v) × (((v ≡ pair.0) × (role ≡ Source)) ⊎ ((pair.0 ≤ n) × (v ≡ pair.1) × (role ≡ Target)))

-- The first number above n, pair after pair.
pub record IsFirstPairAbove (n : ℕ) (pairs : List (ℕ × ℕ)) (v : ℕ) (role : Role) : Type 0 where
  pub place : ℕ
  pub pair : ℕ × ℕ
  pub there : slice_get pairs place ≡ Some pair
  pub first : IsFirstOfPair n pair v role
  pub before : (k : ℕ) (other : ℕ × ℕ) → k < place → slice_get pairs k ≡ Some other → IsPairUpTo n other

-- ## Answers to two texts

-- For the pairs of a graph exactly the text of their answers was written; or a number is no vertex, and nothing was
-- written; or memory was refused, and nothing was written; or the writer failed, and a beginning of the text stands.
abbrev pub ArePairsDone : PairKind → (P : ℕ) → Wrote → Graph → (pairs : List (ℕ × ℕ)) → Result Summary BatchError → Type 0
ArePairsDone kind P wrote graph pairs result =
    IsEnd (AreLinesWritten kind P graph pairs wrote) (IsFirstPairAbove graph.n pairs) (All (IsPairUpTo graph.n) pairs × IsUnwritten wrote) (All (IsPairUpTo graph.n) pairs × HasBegunPairs kind P graph pairs wrote.before wrote.after) wrote result

-- One text spells a graph, another one pairs, and for them the job ended so.
pub record ArePairsOf (kind : PairKind) (P : ℕ) (way : Direction) (gr_text list_text : List ℕ) (wrote : Wrote) (result : Result Summary BatchError) : Type 0 where
  pub graph : Graph
  pub list : PairsFile
  pub spells_graph : SpellsGraph P way gr_text graph
  pub spells_pairs : SpellsPairs P list_text list
  pub done : ArePairsDone kind P wrote graph list.pairs.items result

-- The answer to two texts: a refusal of the first, with nothing written; a refusal of the second, where the first spells a
-- graph, with nothing written; or what the graph and the pairs give that the two texts spell.
abbrev pub PairsTold : PairKind → (P : ℕ) → (way : Direction) → (gr_text list_text : List ℕ) → (NoGraph : GraphFault → Type 0) → (NoList : DimacsError → Type 0) → Wrote → Result Summary BatchError → Type 0
PairsTold kind P way gr_text list_text NoGraph NoList wrote (Err (Gr e)) = NoGraph e × IsUnwritten wrote
PairsTold kind P way gr_text list_text NoGraph NoList wrote (Err (Pairs e)) = HoldsGraph P way gr_text × NoList e × IsUnwritten wrote
PairsTold kind P way gr_text list_text NoGraph NoList wrote result = ArePairsOf kind P way gr_text list_text wrote result

-- The readers leave of the texts what their devices have left.
abbrev pub PairsAnswered : {G S : Type 0} → PairKind → (P : ℕ) → (way : Direction) → (gr_text list_text : List ℕ) → Reader G → G → Reader S → S → Wrote → Result Summary BatchError → Type 0
PairsAnswered kind P way gr_text list_text g gr s pairs wrote result =
    PairsTold kind P way gr_text list_text (IsGraphRefused P way gr_text g gr) (λ e. PairsRead P list_text (s.left pairs) (s.has_failed pairs) (Err e)) wrote result

-- The same where the devices perhaps don't tell their bytes: some texts spell the graph and the pairs.
abbrev pub PairsOfSome : PairKind → (P : ℕ) → (way : Direction) → Wrote → Result Summary BatchError → Type 0
PairsOfSome kind P way wrote (Err (Gr e)) = IsUnwritten wrote
PairsOfSome kind P way wrote (Err (Pairs e)) = IsUnwritten wrote
PairsOfSome kind P way wrote result = (gr_text list_text : List ℕ) × ArePairsOf kind P way gr_text list_text wrote result

-- If the device of the graph or that of the pairs has failed, then it may fail.
abbrev pub MayFail : (gr pairs : Failing) → BatchError → Type 0
MayFail gr pairs (Gr e) = MayReadGraph gr e
MayFail gr pairs (Pairs e) = MayRead pairs e
MayFail gr pairs _ = Unit {0}
