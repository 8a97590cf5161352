-- What is told of pairs: the word of each target or the route to it, and what is written of them.
use Rattle.std.specs.Prelude.{ℕ, Bool, true, false, List, length, Option}
use Rattle.std.specs.List.{AllZip, zip, flat_map, count_by}
use Rattle.std.specs.Io.KnownBytes.{Appends}
use Rattle.sp_word.specs.Word.{max_dist}
use Rattle.sp_device.specs.Devices.{IsBegun}
use Rattle.sp_paths.specs.Paths.{Graph, IsPair, PairAnswer, Found, TooFar, NoWalk}
use Rattle.sp_answer.specs.Routed.{RouteAnswer, IsRouteAnswer, Found as FoundRoute, TooFar as FarVertex, NoWalk as NoRoute}
use Rattle.sp_jobs.specs.declared.answers.Summary.{Summary}
use Rattle.sp_jobs.specs.Answers.{IsCount}
use Rattle.sp_jobs.specs.Answered.{Wrote}
use Rattle.sp_files.specs.PairText.{pair_text, routed_text}

-- ## What is told of a pair

-- What is told of pairs: the answers; when one is the answer for a target of a source in a graph, max being the greatest distance that is
-- told; the line of a pair with its answer; and whether an answer is a vertex that is too far.
pub record PairKind : Type 1 where
  pub Answer : Type 0
  pub IsAnswer : Graph → (s t max : ℕ) → Answer → Type 0
  pub text : ℕ × ℕ → Answer → List ℕ
  pub is_too_far : Answer → Bool

-- The answer for a pair is a vertex that is too far.
abbrev pub is_too_far : PairAnswer → Bool
is_too_far (Found d p) = false
is_too_far (TooFar v) = true
is_too_far NoWalk = false

-- the same of an answer with a route
abbrev pub is_route_too_far : RouteAnswer → Bool
is_route_too_far (FoundRoute d route) = false
is_route_too_far (FarVertex v) = true
is_route_too_far NoRoute = false

-- the target's word
abbrev pub word_kind : PairKind
word_kind = record { Answer = PairAnswer; IsAnswer = IsPair; text = pair_text; is_too_far = is_too_far }

-- the distance, and the route to the target
abbrev pub route_kind : PairKind
route_kind = record { Answer = RouteAnswer; IsAnswer = IsRouteAnswer; text = routed_text; is_too_far = is_route_too_far }

-- ## The answers to pairs

-- the answer to a pair
abbrev pub IsAnswerToPair : (kind : PairKind) → (P : ℕ) → Graph → ℕ × ℕ → kind.Answer → Type 0
IsAnswerToPair kind P g pair answer = kind.IsAnswer g pair.0 pair.1 (max_dist P) answer

-- the answers to a list of pairs, in its order
abbrev pub ArePairAnswers : (kind : PairKind) → (P : ℕ) → Graph → List (ℕ × ℕ) → List kind.Answer → Type 0
ArePairAnswers kind P g pairs answers = AllZip (IsAnswerToPair kind P g) pairs answers

-- the lines of pairs, in their order
abbrev pub pairs_text : (kind : PairKind) → List (ℕ × ℕ) → List kind.Answer → List ℕ
pairs_text kind pairs answers = flat_map (λ told. kind.text told.0 told.1) (zip pairs answers)

-- how many pairs there were, how many of them with a vertex that is too far, and how many bytes were written
abbrev pub IsPairsSummary : (kind : PairKind) → List (ℕ × ℕ) → List kind.Answer → Summary → Type 0
IsPairsSummary kind pairs answers summary = IsCount (length pairs) (count_by kind.is_too_far answers) (pairs_text kind pairs answers) summary

-- The pairs have answers; exactly the text of all of them was written, and they were counted.
abbrev pub AreLinesWritten : PairKind → (P : ℕ) → Graph → (pairs : List (ℕ × ℕ)) → Wrote → Summary → Type 0
AreLinesWritten kind P g pairs wrote summary =
    (answers : List kind.Answer) × ArePairAnswers kind P g pairs answers × Appends wrote.before wrote.after (pairs_text kind pairs answers) × IsPairsSummary kind pairs answers summary

-- Each pair has an answer, and of the text of all the answers a beginning stands.
pub record HasBegunPairs (kind : PairKind) (P : ℕ) (g : Graph) (pairs : List (ℕ × ℕ)) (old new : Option (List ℕ)) : Type 0 where
  pub answers : List kind.Answer
  pub are : ArePairAnswers kind P g pairs answers
  pub begun : IsBegun (pairs_text kind pairs answers) old new
