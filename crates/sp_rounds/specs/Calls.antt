-- What calls offered, and the entries that result from them.
use Rattle.std.specs.Prelude.{◌≡◌, ℕ, ◌<◌, List, [], ◌∷◌, ◌++◌}
use Rattle.sp_word.specs.Word.{Word, Unreached, Pair}
use Rattle.sp_word.specs.History.{Table, Call, Offer, Read, Event}
use Rattle.sp_word.specs.declared.reply.Reply.{Reply}
use Rattle.sp_word.specs.declared.reply.Reply.TheVariants.{Shorter, SmallerPred, Kept}
use Rattle.sp_offer.specs.Order.{IsNoMore}
use Rattle.sp_offer.specs.Story.{Story, known_table}
use Rattle.sp_bins.specs.declared.entry.Entry.{Entry}
use Rattle.sp_rounds.specs.Offers.{AskedOffer}

-- This is the word that a call offers; a read offers none.
abbrev pub word_offered : Call → Word
word_offered (Offer word found reply) = word
word_offered (Read found) = Unreached

-- This is the offer that a call makes, as a vertex and a word; a read offers unreached.
abbrev pub question_of : Event → AskedOffer
question_of e = record { vertex = e.vertex; word = word_offered e.call }

-- This is the entry of an offer that made the distance of its vertex smaller.
abbrev pub entry_of_reply : ℕ → Word → Reply → List Entry
entry_of_reply v Unreached reply = []
entry_of_reply v (Pair d p) Shorter = record { vertex = v; dist = d } ∷ []
entry_of_reply v (Pair d p) SmallerPred = []
entry_of_reply v (Pair d p) Kept = []

-- This is the entry of a call that made the distance of its vertex smaller; other calls have none.
abbrev pub entry_of_call : ℕ → Call → List Entry
entry_of_call v (Offer word found reply) = entry_of_reply v word reply
entry_of_call v (Read found) = []

-- There is one entry for each call that was answered Shorter.
abbrev pub entries : List Event → List Entry
entries [] = []
entries (e ∷ es) = entry_of_call e.vertex e.call ++ entries es

-- The table has no word of the entry's vertex, or one with a greater distance.
abbrev pub IsNearer : Table → Entry → Type 0
IsNearer t e = (d p : ℕ) → t e.vertex ≡ Pair d p → e.dist < d

-- What is known is at most each word that was offered.
abbrev pub AllKnown : Story → List Event → Type 0
AllKnown s [] = Unit {0}
AllKnown s (e ∷ es) = IsNoMore (known_table s e.vertex) (word_offered e.call) × AllKnown s es
