-- What is asked of a run from sources, and what its words answer.
use Rattle.std.specs.Prelude.{◌≡◌, ℕ, ◌≤◌, List, [], ◌∷◌, All, Any, Option, Some, None, length, map}
use Rattle.std.specs.List.{AllZip}
use Rattle.sp_word.specs.Word.{Word, Pair, Unreached, max_dist}
use Rattle.sp_paths.specs.Paths.{Graph, IsVertex, IsPair, PairAnswer, Found, TooFar, NoWalk, word_at}
use Rattle.sp_answer.specs.Pair.{answer_by, answer_of}
use Rattle.sp_answer.specs.Table.{HasPredWithin}
use Rattle.sp_answer.specs.Within.{up_to}
use Rattle.sp_answer.specs.declared.pair.PairAnswer.{PairAnswer as Told}
use Rattle.sp_answer.specs.declared.answer.RunError.{RunError}
use Rattle.sp_answer.specs.declared.answer.RunError.TheVariants.{Memory, TooFar as TooFarVertex, NoSuchVertex}
use Rattle.sp_paths.specs.Forests.{IsForestWord, IsNear, IsFar}
use Rattle.sp_answer.specs.Nearest.{IsForestUpTo}
use Rattle.sp_answer.specs.declared.asked.Until.{Until}
use Rattle.sp_answer.specs.declared.asked.Until.TheVariants.{All as AllWords, Limit, Targets}

-- ## What is asked

-- What may be asked: a limit that is at most the greatest distance of a word, and targets that are vertices.
abbrev pub IsAsked : (P n : ℕ) → Until → Type 0
IsAsked P n AllWords = Unit {0}
IsAsked P n (Limit limit) = limit ≤ max_dist P
IsAsked P n (Targets targets) = All (IsVertex n) targets.now

-- How far a run goes for a limit, if there is one.
abbrev pub until_of : (limit : Option ℕ) → Until
until_of None = AllWords
until_of (Some limit) = Limit limit

-- ## What is answered

-- The answer for a target of several sources: its word in the forest if its least distance is at most the greatest one of a
-- word; otherwise the vertex that is too far, if there is one; otherwise that no walk leads to it.
abbrev pub IsTold : (P : ℕ) → Graph → (sources : List ℕ) → (t : ℕ) → PairAnswer → Type 0
IsTold P g sources t (Found d p) = IsNear g sources (max_dist P) t × IsForestWord g sources t (Pair d p)
IsTold P g sources t (TooFar v) = (IsNear g sources (max_dist P) t → ⊥) × IsFar g sources (max_dist P) (Some v)
IsTold P g sources t NoWalk = (IsNear g sources (max_dist P) t → ⊥) × IsFar g sources (max_dist P) None

-- The words and the vertex that is too far give this answer for each target.
abbrev pub AreTold : (P : ℕ) → Graph → (sources targets : List ℕ) → List Word → (far : Option ℕ) → Type 0
AreTold P g sources targets words far = All (λ t. IsTold P g sources t (answer_by (word_at words t) far)) targets

-- Each vertex whose least distance is at most that of the word has its own word in the forest.
abbrev pub IsFinalUpTo : Graph → (sources : List ℕ) → List Word → Word → Type 0
IsFinalUpTo g sources words Unreached = Unit {0}
IsFinalUpTo g sources words (Pair d p) = (v : ℕ) → IsNear g sources d v → IsForestWord g sources v (word_at words v)

-- This is so up to the distance of each target.
abbrev pub AreFinal : Graph → (sources targets : List ℕ) → List Word → Type 0
AreFinal g sources targets words = All (λ t. IsFinalUpTo g sources words (word_at words t)) targets

-- The words are the forest if no vertex is too far; otherwise this vertex is too far.
abbrev pub IsWhole : (P : ℕ) → Graph → (sources : List ℕ) → List Word → (far : Option ℕ) → Type 0
IsWhole P g sources words None = IsForestUpTo P g sources None (word_at words)
IsWhole P g sources words (Some v) = IsFar g sources (max_dist P) (Some v)

-- The words answer what is asked. A word beyond a limit means nothing. Words for targets lead back from each target that is
-- reached.
abbrev pub Tells : (P : ℕ) → Graph → (sources : List ℕ) → Until → List Word → (far : Option ℕ) → Type 0
Tells P g sources AllWords words far = IsWhole P g sources words far
Tells P g sources (Limit limit) words far = IsForestUpTo P g sources (Some limit) (λ v. up_to limit (word_at words v)) × (far ≡ None)
Tells P g sources (Targets targets) words far = AreTold P g sources targets.now words far × AreFinal g sources targets.now words

-- The words of a run: the sources are vertices, each vertex has a word, and the words answer what was asked.
pub record AreRunWords (P : ℕ) (g : Graph) (sources : List ℕ) (until : Until) (words : List Word) (far : Option ℕ) : Type 0 where
  pub vertices : All (IsVertex g.n) sources
  pub size : length words ≡ g.n
  pub preds : All (HasPredWithin (length words)) words
  pub tells : Tells P g sources until words far

-- The error is NoSuchVertex exactly if some source is no vertex. A vertex that is too far is an answer, not an error.
abbrev pub IsRunRefusal : Graph → (sources : List ℕ) → RunError → Type 0
IsRunRefusal g sources Memory = All (IsVertex g.n) sources
IsRunRefusal g sources (TooFarVertex v) = ⊥
IsRunRefusal g sources NoSuchVertex = Any (λ s. IsVertex g.n s → ⊥) sources

-- The words, with those beyond the limit unreached, if there is a limit.
abbrev pub words_within : (limit : Option ℕ) → List Word → List Word
words_within None words = words
words_within (Some limit) words = map (up_to limit) words

-- The words of a run up to a limit, if there is one.
abbrev pub AreForestWords : (P : ℕ) → Graph → (sources : List ℕ) → (limit : Option ℕ) → List Word → (far : Option ℕ) → Type 0
AreForestWords P g sources limit words far = AreRunWords P g sources (until_of limit) words far

-- ## One source

-- The words of a whole run from a source.
abbrev pub AreWholeWords : (P : ℕ) → Graph → (s : ℕ) → List Word → (far : Option ℕ) → Type 0
AreWholeWords P g s words far = AreRunWords P g (s ∷ []) AllWords words far

-- The words of a run from a source up to a limit.
abbrev pub ArePartWords : (P : ℕ) → Graph → (s limit : ℕ) → List Word → (far : Option ℕ) → Type 0
ArePartWords P g s limit words far = AreRunWords P g (s ∷ []) (Limit limit) words far

-- ## Targets of one source

-- The word has a distance, and it is at most this one.
abbrev pub IsUpTo : (far : ℕ) → Word → Type 0
IsUpTo far Unreached = ⊥
IsUpTo far (Pair d p) = d ≤ far

-- Words that contain the answers for targets of a source.
pub record AreTargetWords (P : ℕ) (g : Graph) (s : ℕ) (targets : List ℕ) (words : List Word) (far : Option ℕ) : Type 0 where
  pub size : length words ≡ g.n
  pub vertices : All (IsVertex g.n) targets
  pub told : AreTold P g (s ∷ []) targets words far
  pub final : AreFinal g (s ∷ []) targets words

-- This is the answer for a target of a source.
abbrev pub IsAnswerFor : Graph → (s t max : ℕ) → Told → Type 0
IsAnswerFor g s t max told = IsPair g s t max (answer_of told)

-- These are the answers for targets, in their order.
abbrev pub AreAnswersBy : {A : Type 0} → (IsAnswerOf : (t : ℕ) → A → Type 0) → (targets : List ℕ) → List A → Type 0
AreAnswersBy IsAnswerOf targets answers = AllZip IsAnswerOf targets answers

-- These are the answers for targets of a source, in their order.
abbrev pub AreAnswersFor : Graph → (s max : ℕ) → (targets : List ℕ) → List Told → Type 0
AreAnswersFor g s max targets answers = AreAnswersBy (λ t told. IsAnswerFor g s t max told) targets answers

-- The source and all targets are vertices.
abbrev pub AreAllEnds : (n s : ℕ) → (targets : List ℕ) → Type 0
AreAllEnds n s targets = IsVertex n s × All (IsVertex n) targets

-- The error is NoSuchVertex exactly if one of them is no vertex. A vertex that is too far is an answer, not an error.
abbrev pub IsTargetsRefusal : (n s : ℕ) → (targets : List ℕ) → RunError → Type 0
IsTargetsRefusal n s targets Memory = AreAllEnds n s targets
IsTargetsRefusal n s targets (TooFarVertex v) = ⊥
IsTargetsRefusal n s targets NoSuchVertex = AreAllEnds n s targets → ⊥
