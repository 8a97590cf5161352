-- A step of an actor at an offer, as a step of an offer on one word.
use Rattle.std.specs.Prelude.{◌≡◌, ℕ, length, Option, Some, None}
use Rattle.sp_word.specs.Word.{Word}
use Rattle.sp_word.specs.Offering.{OfferStage, Before, Holding, Over, Overrun, offer_step, left_by_step}
use Rattle.sp_paths.specs.Paths.{word_at}
use Rattle.sp_machine.specs.declared.turn.At.TheVariants.{Offering}
use Rattle.sp_machine.specs.declared.effect.Call.{Call}
use Rattle.sp_machine.specs.declared.effect.Call.TheVariants.{Offer, Read}
use Rattle.sp_machine.specs.declared.effect.Ended.{Ended}
use Rattle.sp_machine.specs.Programme.{IsNumber}
use Rattle.sp_machine.specs.Step.{Machine, actor_of, place_of, machine_after}

-- An actor at an offer is before its load, or at an exchange of the word that it holds.
abbrev pub stage_of : (held : Option Word) → OfferStage
stage_of None = Before
stage_of (Some h) = Holding h

-- An offer has ended, with its answer. No step at an offer ends a read.
abbrev pub ended_stage : {P : ℕ} → Call P → OfferStage
ended_stage (Offer w x reply) = Over x reply
ended_stage (Read x) = Overrun

-- After a step at an offer the offer has ended; or no call ended, and the actor is still at the offer.
abbrev pub stage_after : {P : ℕ} → Option (Ended P) → (held : Option Word) → OfferStage
stage_after None held = stage_of held
stage_after (Some ended) held = ended_stage ended.call

-- The machine's step at an offer is the step of an offer: it reaches the same stage, and leaves the same word.
abbrev pub OfferStepsAreTheMachines : Type 0
OfferStepsAreTheMachines = (P : ℕ) (m : Machine P) (actor v : ℕ) (w : Word) → IsNumber (length m.actors) actor → IsNumber (length m.words) v → place_of m actor ≡ Offering v w
    → (stage_after (machine_after m actor).last.ended (actor_of (machine_after m actor) actor).held ≡ offer_step w (stage_of (actor_of m actor).held) (word_at m.words v))
    × (word_at (machine_after m actor).words v ≡ left_by_step w (stage_of (actor_of m actor).held) (word_at m.words v))
