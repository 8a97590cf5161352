-- An interleaving of callers' steps as a run of the step machine. Callers are numbered from 0, actors from 1.
use Rattle.std.specs.Prelude.{◌≡◌, ℕ, ◌+◌, ◌==◌, if◌then◌else◌, List, [], ◌∷◌, ◌++◌, length, map}
use Rattle.std.specs.List.{range_with_len}
use Rattle.sp_word.specs.Word.{Word, is_below}
use Rattle.sp_word.specs.History.{Event, Call, Offer, Read, run}
use Rattle.sp_paths.specs.Paths.{word_at}
use Rattle.sp_offer.specs.Order.{lawful}
use Rattle.sp_offer.specs.Histories.{blank}
use Rattle.sp_offer.specs.Interleaving.{AskedStep, OfOffer, OfRead, OfMin, TakenStep, Doing, Rests, Offering, doing, calls_of, IsInterleaving, AreWithin}
use Rattle.sp_offer.specs.Story.{Knowledge}
use Rattle.sp_offer.specs.Ending.{IsEnd}
use Rattle.sp_machine.specs.declared.item.Item.{Item}
use Rattle.sp_machine.specs.declared.item.Item.TheVariants as items
use Rattle.sp_machine.specs.Programme.{Programme, IsNumber}
use Rattle.sp_machine.specs.Step.{next_vertex, found_by}
use Rattle.sp_machine.specs.Run.{RunState, run_of}
use Rattle.sp_machine.specs.Linear.{event_of}

-- ## The programme

-- This is the item of a call.
abbrev pub item_of : (P : ℕ) → (vertex : ℕ) → Call → Item P
item_of P v (Offer w found reply) = items.Offer v w
item_of P v (Read found) = items.Read v

-- These are the items of a caller's calls.
abbrev pub items_of : (P : ℕ) → (caller : ℕ) → List Event → List (Item P)
items_of P k [] = []
items_of P k (e ∷ es) = if k == e.by then item_of P e.vertex e.call ∷ items_of P k es else items_of P k es

-- This is the item of an offer that has begun, if there is one.
abbrev pub begun : (P : ℕ) → Doing → List (Item P)
begun P Rests = []
begun P (Offering v w h) = items.Offer v w ∷ []

-- These are the items of a caller: those of its calls, and that of an offer that has begun.
abbrev pub row : (P : ℕ) → List TakenStep → (caller : ℕ) → List (Item P)
row P steps k = items_of P k (calls_of steps) ++ begun P (doing steps k)

-- This is the programme of these callers' calls. No vertex has a word at the start.
abbrev pub programme_of : (P vertices callers : ℕ) → List TakenStep → Programme P
programme_of P n callers steps = record { words = n; actors = callers; named = []; rows = map (row P steps) (range_with_len 0 callers) }

-- ## The run

-- These are the actors of the steps, each that of the step's caller.
abbrev pub actors_of : List TakenStep → List ℕ
actors_of [] = []
actors_of (s ∷ before) = actors_of before ++ (s.by + 1) ∷ []

-- Each step of the run looks at the vertex of the caller's step, and finds the same word there.
abbrev pub AreFound : {P : ℕ} → Programme P → List TakenStep → Type 0
AreFound p [] = Unit {0}
AreFound p (s ∷ before) =
    (next_vertex (run_of p (actors_of before)).machine (s.by + 1) ≡ s.vertex)
    × (found_by (run_of p (actors_of before)).machine (s.by + 1) ≡ s.found)
    × AreFound p before

-- This is an event with its caller's actor.
abbrev pub by_actor : Event → Event
by_actor e = record { by = e.by + 1; vertex = e.vertex; call = e.call }

-- The steps are a run of the machine: it finds the same words, finishes the same calls, and ends in the same words.
pub record IsRun (P vertices callers : ℕ) (steps : List TakenStep) : Type 0 where
  pub found : AreFound (programme_of P vertices callers steps) steps
  pub calls : map event_of (run_of (programme_of P vertices callers steps) (actors_of steps)).log.calls ≡ map by_actor (calls_of steps)
  pub words : (v : ℕ) → IsNumber vertices v → word_at (run_of (programme_of P vertices callers steps) (actors_of steps)).machine.words v ≡ run blank (calls_of steps) v

-- The machine has no step that leaves the lesser of two words at once.
abbrev pub HasItem : AskedStep → Type 0
HasItem (OfOffer w) = Unit {0}
HasItem OfRead = Unit {0}
HasItem (OfMin w) = ⊥

-- Each step has an item of the machine.
abbrev pub HaveItems : List TakenStep → Type 0
HaveItems [] = Unit {0}
HaveItems (s ∷ before) = HasItem s.asked × HaveItems before

-- Every interleaving of these steps is a run of the machine.
abbrev pub EveryInterleavingIsARun : Type 0
EveryInterleavingIsARun = (P vertices callers : ℕ) (steps : List TakenStep) → IsInterleaving steps → AreWithin vertices callers steps → HaveItems steps
    → IsRun P vertices callers steps

-- An offer by one step is a load and, if the word found is greater, an exchange right after it, before any other step.
abbrev pub offering : TakenStep → Word → TakenStep
offering s w = record { by = s.by; vertex = s.vertex; asked = OfOffer w; found = s.found }

-- These are the machine's steps for one step of a caller.
abbrev pub in_exchanges : TakenStep → AskedStep → List TakenStep
in_exchanges s (OfOffer w) = s ∷ []
in_exchanges s OfRead = s ∷ []
in_exchanges s (OfMin w) = if is_below w s.found then offering s w ∷ offering s w ∷ [] else offering s w ∷ []

-- These are the machine's steps for the callers' steps.
abbrev pub by_exchanges : List TakenStep → List TakenStep
by_exchanges [] = []
by_exchanges (s ∷ before) = in_exchanges s s.asked ++ by_exchanges before

-- ## A table at its end

-- The steps made at a table are a run of the machine, with all calls made there, and the run ends in the words that are left.
pub record IsRunOf (P : ℕ) (law : ℕ → Word → Type 0) (caller : Knowledge) (words : List Word) (end : IsEnd law caller words) : Type 0 where
  pub is_run : IsRun P (length words) (length end.owns) (by_exchanges end.steps)
  pub as_made : HaveItems end.steps → by_exchanges end.steps ≡ end.steps
  pub calls : calls_of (by_exchanges end.steps) ≡ end.history
  pub words_left : (v : ℕ) → IsNumber (length words) v
      → word_at words v ≡ word_at (run_of (programme_of P (length words) (length end.owns) (by_exchanges end.steps)) (actors_of (by_exchanges end.steps))).machine.words v

-- At every end of a table the steps made at it are a run of the machine.
abbrev pub EveryEndIsARun : {L : Type 0} → (allows : L → ℕ → Word → Type 0) → Type 0
EveryEndIsARun {L} allows = (P : ℕ) (law : L) (caller : Knowledge) (words : List Word) (end : IsEnd (lawful P (allows law)) caller words)
    → IsRunOf P (lawful P (allows law)) caller words end
