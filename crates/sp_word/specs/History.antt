-- The table of least offers, a sequential object, and the histories of its calls.
use Rattle.std.specs.Prelude.{◌≡◌, ℕ, ◌==◌, if◌then◌else◌, List, [], ◌∷◌}
use Rattle.sp_word.specs.declared.reply.Reply.{Reply}
use Rattle.sp_word.specs.Word.{Word, lesser}
use Rattle.sp_word.specs.Reply.{reply_to}

-- A table maps each vertex to its word.
abbrev pub Table : Type 0
Table = ℕ → Word

-- A call on the word of a vertex, with its result: an offer returns the word found and the reply, a read returns the
-- word found.
pub data Call : Type 0 where
  Offer : (word found : Word) (reply : Reply) → Call
  Read : (found : Word) → Call

-- An event is a call with its caller and its vertex.
pub record Event : Type 0 where
  pub by : ℕ
  pub vertex : ℕ
  pub call : Call

-- The result of the call is correct if the vertex has the word x.
abbrev pub IsAnswered : Word → Call → Type 0
IsAnswered x (Offer word found reply) = (found ≡ x) × (reply ≡ reply_to x word)
IsAnswered x (Read found) = found ≡ x

-- An offer leaves the lesser of two words; a read leaves the word as it is.
abbrev pub left_by : Call → Word → Word
left_by (Offer word found reply) x = lesser x word
left_by (Read found) x = x

-- This is the table after one call.
abbrev pub after : Table → Event → Table
after t e v = if v == e.vertex then left_by e.call (t v) else t v

-- This is the table after all calls of a history.
abbrev pub run : Table → List Event → Table
run t [] = t
run t (e ∷ es) = run (after t e) es

-- A history is legal if each call has the result that the table gives at its turn.
abbrev pub IsLegal : Table → List Event → Type 0
IsLegal t [] = Unit {0}
IsLegal t (e ∷ es) = IsAnswered (t e.vertex) e.call × IsLegal (after t e) es
