-- The answer for one source.
use Rattle.std.specs.Prelude.{◌≡◌, ℕ, ◌-◌, List, length, replicate, slice_set, All, Some, None}
use Rattle.sp_word.specs.Word.{Word, Unreached, Pair}
use Rattle.sp_paths.specs.Paths.{Graph, IsTree, IsFar, word_at}
use Rattle.sp_answer.specs.Table.{HasPredWithin}
use Rattle.sp_judge.specs.declared.plain.Answer.{Answer}
use Rattle.sp_judge.specs.declared.plain.Answer.TheVariants.{Tree, TooFar}

-- The answer is the tree, with a word for each vertex, if no vertex is too far; otherwise it is the smallest vertex
-- that is too far.
abbrev pub IsAnswer : {P : ℕ} → Graph → (s max : ℕ) → Answer P → Type 0
IsAnswer g s max (Tree words) = (length words.items ≡ g.n) × IsTree g s (word_at words.items) × IsFar g s max None
IsAnswer g s max (TooFar v) = IsFar g s max (Some v)

-- Every predecessor is a vertex or 0.
abbrev pub ArePredsWithin : {P : ℕ} → ℕ → Answer P → Type 0
ArePredsWithin n (Tree words) = All (HasPredWithin n) words.items
ArePredsWithin n (TooFar v) = Unit {0}

-- The source has (0, 0), and the other vertices are unreached.
abbrev pub first_words : (n s : ℕ) → List Word
first_words n s = slice_set (replicate n Unreached) (s - 1) (Pair 0 0)
