-- What a caller knows after its calls.
use Rattle.std.specs.Prelude.{◌≡◌, ℕ, List, [], ◌∷◌, ◌++◌}
use Rattle.sp_word.specs.Word.{Word}
use Rattle.sp_word.specs.History.{Event, Offer, Read}
use Rattle.sp_offer.specs.declared.table.Offered.{Offered}
use Rattle.sp_offer.specs.Order.{lawful}
use Rattle.sp_offer.specs.Histories.{event}
use Rattle.sp_offer.specs.Story.{Knowledge, own_calls, story_beside, Calls, Knows, Follows, Reads, IsCopy}
use Rattle.sp_offer.specs.Rule.{TableView}
use Rattle.sp_offer.specs.Trail.{Found, words_of, Stand}
use Rattle.sp_offer.specs.Lowering.{Finding, Takes}

-- This is the same caller, of the same table and with the same number.
abbrev pub IsSameCaller : Knowledge → Knowledge → Type 0
IsSameCaller before after = (after.table ≡ before.table) × (after.number ≡ before.number)

-- This is the same caller, and its own calls keep their places in the history.
abbrev pub KeepsPlaces : Knowledge → Knowledge → Type 0
KeepsPlaces before after =
    (after.table ≡ before.table) × (after.number ≡ before.number) × (after.story.own ≡ before.story.own)

-- The caller's own calls are the same.
abbrev pub HasSameCalls : Knowledge → Knowledge → Type 0
HasSameCalls before after = own_calls after.story ≡ own_calls before.story

-- A second caller of the table has seen what the first has, and has made no calls.
abbrev pub IsBeside : Knowledge → Knowledge → Type 0
IsBeside first second = (second.table ≡ first.table) × (second.story ≡ story_beside first.story)

-- The caller's steps are the same.
abbrev pub HasSameTrail : Knowledge → Knowledge → Type 0
HasSameTrail before after = after.trail ≡ before.trail

-- ## One call

-- A caller offers a word to a vertex, and this is the event with the answer.
abbrev pub offer_of : {P : ℕ} → Knowledge → ℕ → Word → Offered P → Event
offer_of caller vertex word answer = event caller.number vertex (Offer word answer.found answer.reply)

-- A caller reads the word of a vertex, and this is the event.
abbrev pub read_of : Knowledge → ℕ → Word → Event
read_of caller vertex word = event caller.number vertex (Read word)

-- What the caller knows about the words follows from the call.
abbrev pub Tells : Event → Knowledge → Knowledge → Type 0
Tells call before after = Knows call before.story after.story

-- These calls are added to the caller's own.
abbrev pub OwnsAll : List Event → Knowledge → Knowledge → Type 0
OwnsAll calls before after = own_calls after.story ≡ own_calls before.story ++ calls

-- This call is added to the caller's own.
abbrev pub Owns : Event → Knowledge → Knowledge → Type 0
Owns call before after = OwnsAll (call ∷ []) before after

-- The steps of the call found words of this kind, and it takes effect at the last of them.
abbrev pub TakesSteps : Event → (List Word → Type 0) → Knowledge → Knowledge → Type 0
TakesSteps e finding before after = Takes e finding before.story after.story before.trail after.trail

-- The steps of an offer found words of this kind.
abbrev pub OffersBy : {P : ℕ} → Finding → ℕ → Word → Offered P → Knowledge → Knowledge → Type 0
OffersBy finding vertex word answer before after =
    TakesSteps (offer_of before vertex word answer) (finding word answer.found answer.tries) before after

-- A read takes one step, which finds the word.
abbrev pub ReadsBy : ℕ → Word → Knowledge → Knowledge → Type 0
ReadsBy vertex word before after = TakesSteps (read_of before vertex word) (λ words. words ≡ word ∷ []) before after

-- Steps that found these words were added to the trail, one each, in the order of the history.
pub record Copies (words : List Word) (before after : Knowledge) : Type 0 where
  pub found : List Found
  pub trail : after.trail ≡ before.trail ++ found
  pub finds : words_of found ≡ words
  pub stand : Stand before.story.seen after.story.seen found

-- ## Calls at a table

module _ {L : Type 0} (P : ℕ) (allows : L → ℕ → Word → Type 0) (table : TableView L) where
  -- The caller's history is extended, and this offer is its last event.
  abbrev pub Offers : ℕ → Word → Offered P → Knowledge → Knowledge → Type 0
  Offers vertex word answer before after =
      Calls (lawful P (allows table.law)) (offer_of before vertex word answer) before.story after.story

  -- This read is its last event.
  abbrev pub ReadsWord : ℕ → Word → Knowledge → Knowledge → Type 0
  ReadsWord vertex word before after =
      Calls (lawful P (allows table.law)) (read_of before vertex word) before.story after.story

  -- A read of each vertex, in rising order, ends it.
  abbrev pub ReadsWords : List Word → Knowledge → Knowledge → Type 0
  ReadsWords words before after =
      Reads (lawful P (allows table.law)) before.number 1 words before.story after.story

  -- The words are at most those that the caller knew before, and at least those that it knows after.
  abbrev pub CopiesWords : List Word → Knowledge → Knowledge → Type 0
  CopiesWords words before after = IsCopy (lawful P (allows table.law)) words before.story after.story

  -- The caller has seen what both callers had seen, and knows what either knew.
  abbrev pub SeesBoth : (first second after : Knowledge) → Type 0
  SeesBoth first second after =
      Follows (lawful P (allows table.law)) first.story second.story after.story
