-- What contracts see of a run.
use Rattle.std.specs.Prelude.{◌≡◌, ℕ, Option, Some, None, IfSome, IsSome, IsSomeAnd}
use Rattle.sp_word.specs.Word.{Word}
use Rattle.sp_offer.specs.Story.{Knowledge, known_table}
use Rattle.sp_answer.specs.declared.answer.RunError.{RunError}
use Rattle.sp_answer.specs.declared.answer.RunError.TheVariants.{Memory, TooFar, NoSuchVertex}
use Rattle.sp_phase.specs.Stage.{Stage}
use Rattle.sp_phase.specs.Lead.{Lead}

-- The store's stage, and the caller of a run that isn't spent. `settled` is the bucket of the last answer that no round
-- of heavy arcs has followed yet, and `closed` is the last bucket that was settled and then relaxed heavy.
pub record RunProgress : Type 0 where
  pub stage : Stage
  pub caller : Option Knowledge
  pub settled : Option ℕ
  pub closed : Option ℕ

-- This is the caller of the leader, if there is a leader.
abbrev pub caller_of : Option Lead → Option Knowledge
caller_of None = None
caller_of (Some l) = Some l.caller

-- If there is a leader, it belongs to the stage.
abbrev pub MayLead : Stage → Option Lead → Type 0
MayLead st leader = IfSome leader (λ l. l.stage ≡ st)

-- The run isn't spent: it still has its caller.
abbrev pub IsUnspent : RunProgress → Type 0
IsUnspent run = IsSome run.caller

-- The run is spent: it has no caller any more.
abbrev pub IsSpent : RunProgress → Type 0
IsSpent run = run.caller ≡ None

-- The same buckets are settled and closed.
abbrev pub IsAsFar : (before after : RunProgress) → Type 0
IsAsFar before after = (after.settled ≡ before.settled) × (after.closed ≡ before.closed)

-- This is the caller's word of the vertex.
abbrev pub HasRead : RunProgress → (v : ℕ) → Word → Type 0
HasRead run v word = IsSomeAnd run.caller (λ c. known_table c.story v ≡ word)

-- The refusal is due only to a failed allocation.
abbrev pub IsMemory : RunError → Type 0
IsMemory Memory = Unit {0}
IsMemory (TooFar v) = ⊥
IsMemory NoSuchVertex = ⊥
