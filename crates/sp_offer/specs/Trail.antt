-- The steps of a caller's calls: the words that they found, and where in the history.
use Rattle.std.specs.Prelude.{◌≡◌, ◌⊎◌, ℕ, List, [], ◌∷◌, ◌++◌, length, map}
use mathlib.Core.List.{IsPrefix}
use Rattle.sp_word.specs.Word.{Word}
use Rattle.sp_word.specs.History.{Event, run}
use Rattle.sp_offer.specs.Histories.{blank}
use Rattle.sp_offer.specs.Interleaving.{TakenStep, calls_of}

-- A step found this word of the vertex, after these calls, and after this number of steps of all callers.
pub record Found : Type 0 where
  pub front : List Event
  pub vertex : ℕ
  pub word : Word
  pub turn : ℕ

-- These are the words that the steps found, in order.
abbrev pub words_of : List Found → List Word
words_of found = map (λ f. f.word) found

-- For each step, this is the number of steps of all callers before it.
abbrev pub turns_of : List Found → List ℕ
turns_of found = map (λ f. f.turn) found

-- The steps are of this vertex.
abbrev pub AreOf : ℕ → List Found → Type 0
AreOf v [] = Unit {0}
AreOf v (f ∷ fs) = (f.vertex ≡ v) × AreOf v fs

-- The steps are in the history in this order, after the calls of the front: each comes after the calls before the previous step,
-- and found the word to which all calls before it had led.
abbrev pub Stand : (front seen : List Event) → List Found → Type 0
Stand front seen [] = IsPrefix front seen
Stand front seen (f ∷ fs) = IsPrefix front f.front × (run blank f.front f.vertex ≡ f.word) × Stand f.front seen fs

-- These calls stood before the last step.
abbrev pub last_front : List Found → List Event
last_front [] = []
last_front (f ∷ []) = f.front
last_front (f ∷ g ∷ fs) = last_front (g ∷ fs)

-- The call comes right after the calls before the last step, at the end of the history that was seen: the call takes effect at
-- that step.
abbrev pub Ends : Event → List Event → List Found → Type 0
Ends e seen trail = seen ≡ last_front trail ++ e ∷ []

-- This is one of the steps of all callers, whose list has the latest first.
abbrev pub IsTaken : List TakenStep → Found → Type 0
IsTaken [] f = ⊥
IsTaken (s ∷ before) f =
    ((f.turn ≡ length before) × (f.vertex ≡ s.vertex) × (f.word ≡ s.found) × (f.front ≡ calls_of before)) ⊎ IsTaken before f

-- Each step of the trail is one of the steps of all callers.
abbrev pub AreTaken : List TakenStep → List Found → Type 0
AreTaken steps [] = Unit {0}
AreTaken steps (f ∷ fs) = IsTaken steps f × AreTaken steps fs

-- Each of these trails has steps of all callers.
abbrev pub EachTaken : List TakenStep → List (List Found) → Type 0
EachTaken steps [] = Unit {0}
EachTaken steps (trail ∷ trails) = AreTaken steps trail × EachTaken steps trails
