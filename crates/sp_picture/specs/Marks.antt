-- The marks of a run: what each of its steps did.
use Rattle.std.specs.Prelude.{◌≡◌, ℕ, List, [], ◌∷◌, nat_eq, if◌then◌else◌, Option, Some, None}
use Rattle.sp_machine.specs.declared.effect.ExchangeOutcome.{ExchangeOutcome}
use Rattle.sp_machine.specs.declared.effect.ExchangeOutcome.TheVariants.{Won as IsWon, Lost as IsLost}
use Rattle.sp_machine.specs.declared.effect.Call.{Call}
use Rattle.sp_machine.specs.declared.effect.Call.TheVariants.{Offer, Read}
use Rattle.sp_machine.specs.declared.effect.Ended.{Ended}
use Rattle.sp_machine.specs.Step.{Machine, next_vertex, machine_after}
use Rattle.sp_word.specs.Word.{Word}
use Rattle.sp_picture.specs.declared.marks.StepMark.{StepMark}
use Rattle.sp_picture.specs.declared.marks.Deed.{Deed}
use Rattle.sp_picture.specs.declared.marks.Deed.TheVariants.{Rest, Load, Won, Lost}

-- This is the mark of an actor's next step.
abbrev pub mark_of : {P : ℕ} → Machine P → (actor : ℕ) → StepMark P
mark_of m actor = record { actor = actor; vertex = next_vertex m actor; effect = (machine_after m actor).last }

-- These are the marks of the steps of these actors, one after another.
abbrev pub marks_from : {P : ℕ} → Machine P → (actors : List ℕ) → List (StepMark P)
marks_from m [] = []
marks_from m (actor ∷ more) = mark_of m actor ∷ marks_from (machine_after m actor) more

-- This is what a step was, given its exchange, if it made one, and the vertex whose word it looked at.
abbrev pub deed_by : (exchange : Option ExchangeOutcome) → (vertex : ℕ) → Deed
deed_by None vertex = if nat_eq vertex 0 then Rest else Load
deed_by (Some IsWon) vertex = Won
deed_by (Some IsLost) vertex = Lost

-- This is what a step was.
abbrev pub deed_of : {P : ℕ} → StepMark P → Deed
deed_of mark = deed_by mark.effect.exchange mark.vertex

-- This is the word that a call offers, if it is an offer.
abbrev pub offered_by : {P : ℕ} → Call P → Option Word
offered_by (Offer word found reply) = Some word
offered_by (Read found) = None

-- This is the word that a winning step offered.
abbrev pub offered_at : {P : ℕ} → Deed → Option (Ended P) → Option Word
offered_at Won (Some ended) = offered_by ended.call
offered_at deed ended = None

-- This is the word that a step stored, if it won an exchange.
abbrev pub stored_by : {P : ℕ} → StepMark P → Option Word
stored_by mark = offered_at (deed_of mark) mark.effect.ended

-- The step stored a word at the vertex.
abbrev pub IsStoreTo : {P : ℕ} → (vertex : ℕ) → StepMark P → Type 0
IsStoreTo vertex mark = (mark.vertex ≡ vertex) × (deed_of mark ≡ Won)
