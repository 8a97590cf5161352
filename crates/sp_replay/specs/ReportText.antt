-- The text of a report.
use Rattle.std.specs.Prelude.{ℕ, ◌+◌, Bool, true, false, List, [], ◌∷◌, ◌++◌, codes}
use Rattle.std.specs.List.{flat_map}
use Rattle.sp_word.specs.Word.{Word, Unreached, Pair}
use Rattle.sp_word.specs.declared.reply.Reply.{Reply}
use Rattle.sp_word.specs.declared.reply.Reply.TheVariants.{Shorter, SmallerPred, Kept}
use Rattle.sp_text.specs.Numeral.{number_text}
use Rattle.sp_machine.specs.declared.effect.Call.{Call}
use Rattle.sp_machine.specs.declared.effect.Call.TheVariants.{Offer, Read}
use Rattle.sp_machine.specs.declared.report.Finished.{Finished}
use Rattle.sp_machine.specs.declared.report.Report.{Report}

-- This is ` D P`, or ` none`.
abbrev pub word_text : Word → List ℕ
word_text Unreached = codes " none"
word_text (Pair d p) = number_text d ++ number_text p

-- This is the text of a reply.
abbrev pub reply_text : Reply → List ℕ
reply_text Shorter = codes " shorter"
reply_text SmallerPred = codes " smaller"
reply_text Kept = codes " kept"

-- This is a call with its answer: `o A V D P REPLY`, `r A V D P` or `r A V none`.
abbrev pub asked_text : {P : ℕ} → (actor vertex : ℕ) → Call P → List ℕ
asked_text actor vertex (Offer word found reply) = codes "o" ++ number_text actor ++ number_text vertex ++ word_text word ++ reply_text reply
asked_text actor vertex (Read found) = codes "r" ++ number_text actor ++ number_text vertex ++ word_text found

-- This is the line of a finished call, which ends with ` F L`.
abbrev pub call_text : {P : ℕ} → Finished P → List ℕ
call_text c = asked_text c.ended.actor c.ended.vertex c.ended.call ++ number_text c.first ++ number_text c.last ++ codes "\n"

-- This is `w V D P` for a vertex that is reached.
abbrev pub reached_text : (vertex : ℕ) → Word → List ℕ
reached_text vertex Unreached = []
reached_text vertex (Pair d p) = codes "w" ++ number_text vertex ++ number_text d ++ number_text p ++ codes "\n"

-- These are the lines of the reached vertices among these words, the first of which is that of `vertex`.
abbrev pub reached_from : (vertex : ℕ) → List Word → List ℕ
reached_from vertex [] = []
reached_from vertex (word ∷ more) = reached_text vertex word ++ reached_from (vertex + 1) more

-- This counts the words that are reached.
abbrev pub reached_count : List Word → ℕ
reached_count [] = 0
reached_count (Unreached ∷ more) = reached_count more
reached_count (Pair d p ∷ more) = reached_count more + 1

-- This is the line `e R`.
abbrev pub count_text : (count : ℕ) → List ℕ
count_text count = codes "e" ++ number_text count ++ codes "\n"

-- These are the lines of the reached vertices, and their number.
abbrev pub words_text : List Word → List ℕ
words_text words = reached_from 1 words ++ count_text (reached_count words)

-- This is the line `t WINS LOSSES`.
abbrev pub totals_text : (wins losses : ℕ) → List ℕ
totals_text wins losses = codes "t" ++ number_text wins ++ number_text losses ++ codes "\n"

-- This is the line that says whether the run is closed.
abbrev pub closed_text : Bool → List ℕ
closed_text true = codes "closed yes\n"
closed_text false = codes "closed no\n"

-- These are the finished calls, the reached vertices, the totals, and whether the run is closed.
unfoldable pub report_text : {P : ℕ} → Report P → List ℕ
report_text r = flat_map call_text r.calls.items ++ reached_from 1 r.words.items ++ totals_text r.wins r.losses ++ closed_text r.closed
