-- What an answer of settle means.
use Rattle.std.specs.Prelude.{◌≡◌, ℕ, ◌+◌, ◌*◌, ◌<◌, Option, Some, None, IfSome, IsSomeAnd}
use Rattle.sp_word.specs.Word.{Pair, max_dist}
use Rattle.sp_word.specs.History.{Table}
use Rattle.sp_paths.specs.Paths.{Graph, IsVertex, IsTreeWord, EndsInTree, IsSettled}
use Rattle.sp_offer.specs.Story.{Knowledge, known_table}
use Rattle.sp_phase.specs.Stage.{Stage}
use Rattle.sp_phase.specs.Lead.{Lead}
use Rattle.sp_phase.specs.Progress.{RunProgress}
use Rattle.sp_phase.specs.declared.advancing.AdvanceUntil.{AdvanceUntil}
use Rattle.sp_phase.specs.declared.advancing.AdvanceUntil.TheVariants.{BucketSettled, Swept, Final}

-- Each vertex whose least length is below the bound has its word in the tree, and each pair whose distance is below the
-- bound is its vertex's word in the tree.
pub record IsSettledExactly (g : Graph) (s max bound : ℕ) (words : Table) : Type 0 where
  pub settled : IsSettled g s max bound words
  pub pairs : (v d p : ℕ) → IsVertex g.n v → words v ≡ Pair d p → d < bound → IsTreeWord g s v (Pair d p)

-- Each vertex that has a word in the tree has it, and each pair is its vertex's word in the tree.
pub record EndsExactly (g : Graph) (s max : ℕ) (words : Table) : Type 0 where
  pub ends : EndsInTree g s max words
  pub pairs : (v d p : ℕ) → IsVertex g.n v → words v ≡ Pair d p → IsTreeWord g s v (Pair d p)

-- The bucket is final for the caller, and so is each bucket below it; if the answer names no bucket, all words are
-- final.
abbrev pub IsTold : (P : ℕ) → Stage → Option ℕ → Knowledge → Type 0
IsTold P st None c = EndsExactly st.graph st.source (max_dist P) (known_table c.story)
IsTold P st (Some i) c = IsSettledExactly st.graph st.source (max_dist P) ((i + 1) * st.delta) (known_table c.story)

-- This holds for the leader's caller.
abbrev pub Tells : (P : ℕ) → Option ℕ → Lead → Type 0
Tells P bucket l = IsTold P l.stage bucket l.caller

-- This holds for the caller of a run that isn't spent.
abbrev pub IsToldBy : (P : ℕ) → Option ℕ → RunProgress → Type 0
IsToldBy P bucket run = IsSomeAnd run.caller (IsTold P run.stage bucket)

-- A bucket that the answer names is later than the closed one, if there is one.
abbrev pub IsLaterBucket : (closed bucket : Option ℕ) → Type 0
IsLaterBucket closed bucket = IfSome bucket (λ i. IfSome closed (λ j. j < i))

-- The bucket is later than the closed one that the leader is to leave behind, if there is one.
abbrev pub IsBeyond : AdvanceUntil → (bucket : ℕ) → Type 0
IsBeyond (BucketSettled closed) i = IfSome closed (λ j. j < i)
IsBeyond Swept i = Unit {0}
IsBeyond (Final t) i = Unit {0}
