-- The rule of an offer table, and what its steps show.
use Rattle.std.specs.Prelude.{◌≡◌, ◌≢◌, ℕ, zero, suc, ◌+◌, ◌<◌, ◌≤◌, true, List, [], ◌∷◌, ◌++◌, length, slice_index, sum_by}
use mathlib.Core.Option.{some}
use mathlib.Core.List.{IsPrefix}
use lib.ListN.{get_elem?}
use Rattle.atomic_table.specs.Table.{State, Me, Step}
use Rattle.atomic_table.specs.Seated.{TableId}
use Rattle.atomic_table.specs.declared.shared.Seat.{Seat}
use Rattle.sp_word.specs.Word.{Word, bits_of, is_word, word_of}
use Rattle.sp_word.specs.History.{Event, Offer, Read, run, IsLegal}
use Rattle.sp_word.specs.Reply.{reply_to}
use Rattle.sp_offer.specs.Histories.{blank, event, AreLawful}
use Rattle.sp_offer.specs.Interleaving.{TakenStep, Doing, Rests, Offering, doing, calls_of, IsInterleaving, AreWithin}
use Rattle.sp_offer.specs.Trail.{Found, turns_of, AreTaken, Ends}
use Rattle.sp_offer.specs.Story.{Story, Knowledge, IsStory, times, once_below, Calls, Looks, Follows}
use Rattle.sp_offer.specs.Sight.{Sight, newcomer, story}

-- This is what a seat does between two of its steps. One that isn't there rests.
abbrev pub doing_of : List Sight → ℕ → Doing
doing_of [] j = Rests
doing_of (v ∷ vs) zero = v.at
doing_of (v ∷ vs) (suc j) = doing_of vs j

-- There is one legal history, which ends in the words, and whose offers the law allows. Each caller has seen a prefix of it, and
-- each of its calls belongs to exactly one caller. Its calls are those of an interleaving of the callers' steps, which leaves
-- each seat where it is; each step is in exactly one caller's trail.
pub record OneHistory (P : ℕ) (law : ℕ → Word → Type 0) (vertices : ℕ) (words : List ℕ) (views : List Sight) : Type 0 where
  pub log : List Event
  pub wide : length words ≡ vertices
  pub legal : IsLegal blank log
  pub ends : (i : ℕ) → i < vertices → slice_index words i ≡ bits_of P (run blank log (i + 1))
  pub lawful : AreLawful law log
  pub begins : (j : ℕ) (v : Sight) → get_elem? views j ≡ some v → IsPrefix v.seen log × IsPrefix v.heard log
  pub owned : (p : ℕ) → sum_by (λ (v : Sight). times p v.own) views ≡ once_below p (length log)
  pub steps : List TakenStep
  pub interleaved : IsInterleaving steps
  pub within : AreWithin vertices (length views) steps
  pub calls : log ≡ calls_of steps
  pub stands : (j : ℕ) → doing steps j ≡ doing_of views j
  pub told : (p : ℕ) → sum_by (λ (v : Sight). times p (turns_of v.trail)) views ≡ once_below p (length steps)
  pub taken : (j : ℕ) (v : Sight) → get_elem? views j ≡ some v → AreTaken steps v.trail

-- The rule of a table: the words and what its seats have seen come from one legal history.
abbrev pub rule : {S : Type 0} → ℕ → (ℕ → Word → Type 0) → ℕ → State S Sight → Type 0
rule P law vertices s = OneHistory P law vertices s.words s.views

-- ## What the steps show

-- What a view had heard is in the history that it sees next.
abbrev pub Hears : Sight → Sight → Type 0
Hears v w = (w.heard ≡ []) × IsPrefix v.heard w.seen

-- This is the event of an offer that is answered by the word found.
abbrev pub answer_event : ℕ → ℕ → Word → Word → Event
answer_event by vertex word found = event by vertex (Offer word found (reply_to found word))

-- One step of a call is added to the trail. It found this word of the vertex, after calls that begin with all that was
-- seen before and are seen now.
pub record Finds (vertex : ℕ) (word : Word) (v w : Sight) : Type 0 where
  pub front : List Event
  pub turn : ℕ
  pub trail : w.trail ≡ v.trail ++ record { front = front; vertex = vertex; word = word; turn = turn } ∷ []
  pub begins : IsPrefix v.seen front
  pub within : IsPrefix front w.seen
  pub here : run blank front vertex ≡ word

-- The call takes effect at the step made last.
abbrev pub EndsWith : Event → Sight → Type 0
EndsWith e w = Ends e w.seen w.trail

module _ {S : Type 0} (P : ℕ) (law : ℕ → Word → Type 0) where
  -- A seat holds no slot, before and after, and the bits found are those of a word.
  abbrev pub Stays : Me S Sight → Me S Sight → ℕ → Type 0
  Stays m m' found = (m'.1 ≡ m.1) × Hears m.0 m'.0 × (is_word P found ≡ true)

  -- A load that only looks shows the seat the history so far and this word, and adds no call and no step.
  abbrev pub met : Step S → Me S Sight → ℕ → Me S Sight → Type 0
  met st m found m' = Stays m m' found × Looks law (st.word + 1) (word_of P found) (story m.0) (story m'.0) × (m'.0.trail ≡ m.0.trail) × (m'.0.at ≡ m.0.at)

  module _ (by : ℕ) where
    -- The load of a read is the whole call, and finds the word that the read returns.
    abbrev pub was_read : Step S → Me S Sight → ℕ → Me S Sight → Type 0
    was_read st m found m' =
        Stays m m' found
        × Calls law (event by (st.word + 1) (Read (word_of P found))) (story m.0) (story m'.0)
        × Finds (st.word + 1) (word_of P found) m.0 m'.0
        × EndsWith (event by (st.word + 1) (Read (word_of P found))) m'.0
        × (m'.0.at ≡ Rests)

    module _ (word : Word) where
      -- A word that is no larger than the one offered ends the call; any other word is only seen.
      abbrev pub loaded : Step S → Me S Sight → ℕ → Me S Sight → Type 0
      loaded st m found m' =
          Stays m m' found
          × (found ≤ bits_of P word → Calls law (answer_event by (st.word + 1) word (word_of P found)) (story m.0) (story m'.0))
          × (bits_of P word < found → Looks law (st.word + 1) (word_of P found) (story m.0) (story m'.0))
          × Finds (st.word + 1) (word_of P found) m.0 m'.0
          × (found ≤ bits_of P word → EndsWith (answer_event by (st.word + 1) word (word_of P found)) m'.0)
          × (found ≤ bits_of P word → m'.0.at ≡ Rests)
          × (bits_of P word < found → m'.0.at ≡ Offering (st.word + 1) word (word_of P found))

      -- An exchange for a lesser word wins, or loses and decides the reply, or loses and the offer continues.
      abbrev pub exchanged : Step S → Me S Sight → ℕ → Me S Sight → Type 0
      exchanged st m found m' =
          Stays m m' found
          × (found ≡ st.first → Calls law (answer_event by (st.word + 1) word (word_of P found)) (story m.0) (story m'.0))
          × (found ≤ bits_of P word → Calls law (answer_event by (st.word + 1) word (word_of P found)) (story m.0) (story m'.0))
          × (found ≢ st.first → bits_of P word < found → Looks law (st.word + 1) (word_of P found) (story m.0) (story m'.0))
          × Finds (st.word + 1) (word_of P found) m.0 m'.0
          × (found ≡ st.first → EndsWith (answer_event by (st.word + 1) word (word_of P found)) m'.0)
          × (found ≤ bits_of P word → EndsWith (answer_event by (st.word + 1) word (word_of P found)) m'.0)
          × (found ≡ st.first → m'.0.at ≡ Rests)
          × (found ≤ bits_of P word → m'.0.at ≡ Rests)
          × (found ≢ st.first → bits_of P word < found → m'.0.at ≡ Offering (st.word + 1) word (word_of P found))

      -- The single step that leaves the lesser of two words is the whole offer, and the word that it finds decides the reply.
      abbrev pub lessened : Step S → Me S Sight → ℕ → Me S Sight → Type 0
      lessened st m found m' =
          Stays m m' found
          × Calls law (answer_event by (st.word + 1) word (word_of P found)) (story m.0) (story m'.0)
          × Finds (st.word + 1) (word_of P found) m.0 m'.0
          × EndsWith (answer_event by (st.word + 1) word (word_of P found)) m'.0
          × (m'.0.at ≡ Rests)

-- ## Seats

-- A caller's seat is at rest if it holds no slot, has looked at all that it heard, and is at no call.
module _ {S : Type 0} where
  abbrev pub IsAtRest : TableId → Seat S Sight → Type 0
  IsAtRest table it = (it.table_id ≡ table) × (it.me.1 ≡ []) × (it.me.0.heard ≡ []) × (it.me.0.at ≡ Rests)

  -- The same, but it may be at an offer.
  abbrev pub IsBetweenSteps : TableId → Seat S Sight → Type 0
  IsBetweenSteps table it = (it.table_id ≡ table) × (it.me.1 ≡ []) × (it.me.0.heard ≡ [])

  -- The seat is at an offer of the word, and holds a word to exchange.
  abbrev pub HoldsWord : (vertex : ℕ) (word held : Word) → Seat S Sight → Type 0
  HoldsWord vertex word held it = it.me.0.at ≡ Offering vertex word held

  -- The seat is at no call.
  abbrev pub IsDone : Seat S Sight → Type 0
  IsDone it = it.me.0.at ≡ Rests

  -- The seat belongs to the table, holds no slot, and is at no call.
  abbrev pub HoldsNoSlot : TableId → Seat S Sight → Type 0
  HoldsNoSlot table it = (it.table_id ≡ table) × (it.me.1 ≡ []) × (it.me.0.at ≡ Rests)

  -- This is the table's first seat.
  abbrev pub IsFirstSeat : TableId → Seat S Sight → Type 0
  IsFirstSeat table it = (it.table_id ≡ table) × (it.me ≡ (newcomer, []))

  -- This is the same seat, of the same table.
  abbrev pub IsSameSeat : Seat S Sight → Seat S Sight → Type 0
  IsSameSeat p q = (q.table_id ≡ p.table_id) × (q.id ≡ p.id)

  -- This is what contracts see of what the seat has seen.
  abbrev pub seat_story : Seat S Sight → Story
  seat_story it = story it.me.0

  -- These are the steps of the seat's calls.
  abbrev pub trail_of : Seat S Sight → List Found
  trail_of it = it.me.0.trail

  -- This is what contracts see of the caller on the seat.
  abbrev pub knowledge : Seat S Sight → Knowledge
  knowledge it = record { table = it.table_id; number = it.id; story = seat_story it; trail = trail_of it }

  -- This holds for every caller's seat.
  abbrev pub IsCallersSeat : Seat S Sight → Type 0
  IsCallersSeat it = (it.me.1 ≡ []) × (it.me.0.heard ≡ []) × IsStory (seat_story it) × (it.me.0.at ≡ Rests)

  -- The seat is the same, and has seen and done nothing more.
  abbrev pub IsAsItWas : Seat S Sight → Seat S Sight → Type 0
  IsAsItWas p q = IsSameSeat p q × (seat_story q ≡ seat_story p) × (trail_of q ≡ trail_of p)

  -- These are the places of the seat's own calls.
  abbrev pub own_places : Seat S Sight → List ℕ
  own_places it = (seat_story it).own

  -- The places of the seat's own calls are the same.
  abbrev pub HasSamePlaces : Seat S Sight → Seat S Sight → Type 0
  HasSamePlaces p q = own_places q ≡ own_places p

  -- The steps of the seat's calls are the same.
  abbrev pub HasSameTrail : Seat S Sight → Seat S Sight → Type 0
  HasSameTrail p q = trail_of q ≡ trail_of p

  -- One step of a call found this word of the vertex.
  abbrev pub SeatFinds : ℕ → Word → Seat S Sight → Seat S Sight → Type 0
  SeatFinds vertex word p q = Finds vertex word p.me.0 q.me.0

  -- The call takes effect at the seat's last step.
  abbrev pub EndsAt : Event → Seat S Sight → Type 0
  EndsAt e q = EndsWith e q.me.0

  -- ## What a seat is shown

  module _ (law : ℕ → Word → Type 0) where
    -- The seat saw the history so far.
    abbrev pub SeatLooks : Seat S Sight → Seat S Sight → Type 0
    SeatLooks p q = (found : Word) × Looks law 1 found (seat_story p) (seat_story q)

    -- Afterwards the first seat has seen what both had seen.
    abbrev pub SeatSees : (first second after : Seat S Sight) → Type 0
    SeatSees first second after = Follows law (seat_story first) (seat_story second) (seat_story after)

  module _ (P : ℕ) (law : ℕ → Word → Type 0) (by vertex : ℕ) where
    -- The seat read these bits.
    abbrev pub SeatReads : (bits : ℕ) → Seat S Sight → Seat S Sight → Type 0
    SeatReads bits p q = Calls law (event by vertex (Read (word_of P bits))) (seat_story p) (seat_story q)

    -- The seat offered the word, and these bits decided the reply.
    abbrev pub SeatOffers : Word → (bits : ℕ) → Seat S Sight → Seat S Sight → Type 0
    SeatOffers word bits p q = Calls law (answer_event by vertex word (word_of P bits)) (seat_story p) (seat_story q)

-- What contracts see of a table: which table it is, how many vertices it has, and its law.
pub record TableView (L : Type 0) : Type 0 where
  pub id : TableId
  pub vertices : ℕ
  pub law : L
