-- The answer of a run for one target of its source.
use Rattle.std.specs.Prelude.{ℕ, Option, Some, None}
use Rattle.sp_word.specs.Word.{Word, Pair, Unreached}
use Rattle.sp_paths.specs.Paths.{PairAnswer}
use Rattle.sp_paths.specs.Paths.{Found as FoundPair, TooFar as FarVertex, NoWalk as NoWay}
use Rattle.sp_answer.specs.declared.pair.PairAnswer.{PairAnswer as Told}
use Rattle.sp_answer.specs.declared.pair.PairAnswer.TheVariants.{Found, TooFar, NoWalk}

-- This is the program's answer as an answer of the definitions.
abbrev pub answer_of : Told → PairAnswer
answer_of (Found p d) = FoundPair d p
answer_of (TooFar v) = FarVertex v
answer_of NoWalk = NoWay

-- This is the answer for a vertex with this word in the tree. If the word is unreached, the vertex that is too far
-- decides.
abbrev pub answer_by : Word → (far : Option ℕ) → PairAnswer
answer_by (Pair d p) far = FoundPair d p
answer_by Unreached (Some v) = FarVertex v
answer_by Unreached None = NoWay
