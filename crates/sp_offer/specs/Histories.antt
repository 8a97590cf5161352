-- Histories of a table whose words are all unreached at the start.
use Rattle.std.specs.Prelude.{ℕ, ◌==◌, ◌&&◌, Bool, true, false, List, [], ◌∷◌, count_by}
use Rattle.sp_word.specs.Word.{Word, Unreached}
use Rattle.sp_word.specs.History.{Table, Event, Call, Offer, Read}
use Rattle.sp_word.specs.declared.reply.Reply.{Reply}
use Rattle.sp_word.specs.declared.reply.Reply.TheVariants.{Shorter, SmallerPred, Kept}

-- No vertex is reached.
abbrev pub blank : Table
blank v = Unreached

-- An event has the caller's number, the vertex, and the call with its answer.
abbrev pub event : ℕ → ℕ → Call → Event
event by v call = record { by = by; vertex = v; call = call }

-- This is the word that a call found.
abbrev pub found_by : Call → Word
found_by (Offer word found reply) = found
found_by (Read found) = found

-- ## Lowerings

-- The word became smaller.
abbrev pub is_smaller : Reply → Bool
is_smaller Shorter = true
is_smaller SmallerPred = true
is_smaller Kept = false

-- The call lowered a word.
abbrev pub is_lowering : Call → Bool
is_lowering (Offer word found reply) = is_smaller reply
is_lowering (Read found) = false

-- This counts the offers of a history to the vertex that were answered Shorter or SmallerPred.
abbrev pub lowerings : ℕ → List Event → ℕ
lowerings v es = count_by (λ e. (v == e.vertex) && is_lowering e.call) es

-- ## Laws

module _ (law : ℕ → Word → Type 0) where
  -- The law allows the word that the call offers.
  abbrev pub IsLawful : ℕ → Call → Type 0
  IsLawful v (Offer word found reply) = law v word
  IsLawful v (Read found) = Unit {0}

  -- The law allows the word of every offer in the history.
  abbrev pub AreLawful : List Event → Type 0
  AreLawful [] = Unit {0}
  AreLawful (e ∷ es) = IsLawful e.vertex e.call × AreLawful es
