-- What a call tells C, and what the caller's slices then hold.
use Rattle.std.specs.Prelude.{◌≡◌, ◌⊎◌}
use Rattle.sp_lists.specs.declared.outcomes.BatchOutcome.{BatchOutcome}
use Rattle.sp_lists.specs.declared.outcomes.Outcome.{Outcome}
use Rattle.sp_lists.specs.declared.outcomes.Outcome.TheVariants.{Done, BadSize, BadDelta, BadArc, NoSuchVertex, TooFar, Memory, Wrong, NoGraph, BadLimit}
use Rattle.sp_lists.specs.Limits.{reach}
use Rattle.sp_lists.specs.Blocks.{Slices, places, AreSolved}
use Rattle.spt_c.specs.declared.answers.SptAnswer.{SptAnswer}
use Rattle.spt_c.specs.declared.answers.SptBatch.{SptBatch}
use Rattle.spt_c.specs.Arcs.{graph_of}
use Rattle.spt_c.specs.Asked.{AskedTrees, IsGood, IsRefused}

-- These are the numbers of the header.
abbrev pub answer_of : Outcome → SptAnswer
answer_of Done = record { status = 0; vertex = 0; index = 0 }
answer_of BadSize = record { status = 1; vertex = 0; index = 0 }
answer_of BadDelta = record { status = 2; vertex = 0; index = 0 }
answer_of (BadArc place) = record { status = 3; vertex = 0; index = place }
answer_of (NoSuchVertex place) = record { status = 4; vertex = 0; index = place }
answer_of (TooFar v) = record { status = 5; vertex = v; index = 0 }
answer_of Memory = record { status = 6; vertex = 0; index = 0 }
answer_of (Wrong v) = record { status = 9; vertex = v; index = 0 }
answer_of NoGraph = record { status = 10; vertex = 0; index = 0 }
answer_of BadLimit = record { status = 11; vertex = 0; index = 0 }

-- The result for several sources in the form for C.
abbrev pub batch_of : BatchOutcome → SptBatch
batch_of b = record { status = (answer_of b.told).status; vertex = (answer_of b.told).vertex; index = (answer_of b.told).index; done = b.done }

-- Something is wrong with the call, and nothing is written.
pub record IsRefusal (q : AskedTrees) (old new : Slices) (b : BatchOutcome) : Type 0 where
  pub why : IsRefused q (places old) b.told
  pub none : b.done ≡ 0
  pub same : new ≡ old

-- Nothing is wrong, and the slices hold the trees of the sources up to the first that has none.
pub record IsAnswer (q : AskedTrees) (old new : Slices) (b : BatchOutcome) : Type 0 where
  pub good : IsGood q (places old)
  pub solved : AreSolved (reach q.n) (graph_of q.n q.arcs) q.sources old new b

-- The result of a call for trees: a refusal, or the answer.
abbrev pub IsTold : AskedTrees → (old new : Slices) → BatchOutcome → Type 0
IsTold q old new b = IsRefusal q old new b ⊎ IsAnswer q old new b
