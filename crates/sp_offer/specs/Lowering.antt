-- The progress of an offer.
use Rattle.std.specs.Prelude.{◌≡◌, ◌≢◌, ℕ, ◌+◌, ◌<◌, ◌≤◌, true, List, [], ◌∷◌, ◌++◌, length}
use Rattle.sp_word.specs.History.{Event}
use Rattle.sp_offer.specs.Trail.{Found, words_of, AreOf, Stand, Ends}
use Rattle.atomic_table.specs.declared.shared.Seat.{Seat}
use Rattle.sp_word.specs.Word.{Word, Fits, is_layout, is_word, bits_of, word_of}
use Rattle.sp_word.specs.Offering.{Before, Holding, offer_steps, IsOffer}
use Rattle.sp_word.specs.Reply.{reply_to}
use Rattle.sp_offer.specs.Story.{Story, Calls, Looks, IsTried}
use Rattle.sp_offer.specs.Sight.{Sight, story}
use Rattle.sp_offer.specs.Rule.{answer_event, seat_story}

module _ (P : ℕ) (law : ℕ → Word → Type 0) (by vertex : ℕ) (word : Word) (bits : ℕ) where
  -- After some steps: if the bits held are no larger than those offered, the call is made; otherwise they were only
  -- seen. Each step except the first found a lesser word.
  pub record IsUnderWay (held tries : ℕ) (s t : Story) : Type 0 where
    pub layout : is_layout P ≡ true
    pub offered : (bits ≡ bits_of P word) × Fits P word
    pub is_word : is_word P held ≡ true
    pub kept : held ≤ bits → Calls law (answer_event by vertex word (word_of P held)) s t
    pub seen : bits < held → Looks law vertex (word_of P held) s t
    pub tried : IsTried vertex s t tries
    pub fits : held < 18446744073709551616
    pub few : 1 < tries → tries + held < 18446744073709551616

  -- An exchange of the bits held for those offered has one of these outcomes: it wins, or it loses and the word is
  -- kept, or it loses and the offer continues.
  pub record IsExchanged (held found : ℕ) (s t : Story) : Type 0 where
    pub is_word : is_word P found ≡ true
    pub fits : found < 18446744073709551616
    pub won : found ≡ held → Calls law (answer_event by vertex word (word_of P found)) s t
    pub kept : found ≤ bits → Calls law (answer_event by vertex word (word_of P found)) s t
    pub lost : found ≢ held → bits < found → Looks law vertex (word_of P found) s t

  module _ {S : Type 0} where
    -- This is the progress of the offer from a seat.
    abbrev pub HasCome : (held tries : ℕ) → Seat S Sight → Seat S Sight → Type 0
    HasCome held tries p q = IsUnderWay held tries (seat_story p) (seat_story q)

    -- This is what the exchange shows the seat.
    abbrev pub Swaps : (held found : ℕ) → Seat S Sight → Seat S Sight → Type 0
    Swaps held found p q = IsExchanged held found (seat_story p) (seat_story q)

-- ## The steps

-- The trail grew by steps of the vertex, which are in the history.
pub record Grows (vertex : ℕ) (s t : Story) (before after : List Found) : Type 0 where
  pub found : List Found
  pub trail : after ≡ before ++ found
  pub of : AreOf vertex found
  pub stand : Stand s.seen t.seen found

-- This describes the words that the steps of a lowering find, for the word offered, the word that decides, and the number of
-- steps counted.
abbrev pub Finding : Type 1
Finding = (word found : Word) → (tries : ℕ) → List Word → Type 0

-- Each step is counted, and they are those of an offer.
abbrev pub by_steps : Finding
by_steps word found tries words = (length words ≡ tries) × IsOffer word words found (reply_to found word)

-- There is one step.
abbrev pub by_one_step : Finding
by_one_step word found tries words = words ≡ found ∷ []

-- The steps of the call found words of this kind, and it takes effect at the last of them.
pub record Takes (e : Event) (finding : List Word → Type 0) (s t : Story) (before after : List Found) : Type 0 where
  pub grows : Grows e.vertex s t before after
  pub words : finding (words_of grows.found)
  pub last : Ends e t.seen after

-- After some steps: an offer that takes them holds the word found last, or has ended with it.
pub record HasFound (P by vertex : ℕ) (word : Word) (bits held tries : ℕ) (u v : Sight) : Type 0 where
  pub grows : Grows vertex (story u) (story v) u.trail v.trail
  pub count : length grows.found ≡ tries
  pub holds : bits < held → offer_steps word Before (words_of grows.found) ≡ Holding (word_of P held)
  pub over : held ≤ bits → Takes (answer_event by vertex word (word_of P held)) (by_steps word (word_of P held) tries) (story u) (story v) u.trail v.trail

module _ {S : Type 0} where
  -- This is what the steps of a call show the seat.
  abbrev pub SeatTakes : Event → (List Word → Type 0) → Seat S Sight → Seat S Sight → Type 0
  SeatTakes e finding p q = Takes e finding (story p.me.0) (story q.me.0) p.me.0.trail q.me.0.trail
