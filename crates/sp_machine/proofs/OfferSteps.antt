-- A step of an actor at an offer is a step of an offer on one word.
use Rattle.std.proofs.Common.{◌≡◌, ℕ, ◌-◌, ◌≤◌, Bool, true, false, if◌then◌else◌, List, length, Option, Some, None, refl, ap, ◌∙◌, arith}
use Rattle.std.proofs.lemmas.List.{get_or-set_same}
use Rattle.sp_word.specs.declared.reply.Reply.TheVariants.{Kept}
use Rattle.sp_word.specs.Word.{Word, Unreached, is_below, is_same, max_dist}
use Rattle.sp_word.specs.Reply.{reply_to}
use Rattle.sp_word.specs.Offering.{OfferStage, Holding, Over, offer_step, left_by_step}
use Rattle.sp_paths.specs.Paths.{word_at}
use Rattle.sp_machine.specs.declared.turn.At.{At}
use Rattle.sp_machine.specs.declared.turn.At.TheVariants.{Offering}
use Rattle.sp_machine.specs.declared.turn.Turn.{Turn}
use Rattle.sp_machine.specs.declared.turn.Turn.TheVariants.{Keeps, Holds, Wins, LosesAndKeeps, LosesAndHolds}
use Rattle.sp_machine.specs.declared.actor.Actor.{Actor}
use Rattle.sp_machine.specs.Step.{offer_turn, turn, vertex_at, words_after, call_ended, with_caller, actor_after, actor_of, place_of, machine_after, fresh_actor}
use Rattle.sp_machine.specs.OfferSteps.{stage_of, stage_after, OfferStepsAreTheMachines}

module _ (P : ℕ) (a : Actor P) (actor v : ℕ) (w x : Word) where
  -- the stage after a case of the step
  abbrev stage_by : Turn → OfferStage
  stage_by t = stage_after (with_caller {P = P} actor v (call_ended (Offering v w) t x)) (actor_after a t x).held

  loads : (b : Bool) → stage_by (if b then Holds else Keeps) ≡ (if b then Holding x else Over x Kept)
  loads true = refl
  loads false = refl

  exchanges : (same lower : Bool) → stage_by (if same then Wins else if lower then LosesAndHolds else LosesAndKeeps) ≡ (if same then Over x (reply_to x w) else if lower then Holding x else Over x Kept)
  exchanges true lower = refl
  exchanges false true = refl
  exchanges false false = refl

  stage_is : (held : Option Word) → stage_by (offer_turn w held x) ≡ offer_step w (stage_of held) x
  stage_is None = loads (is_below w x)
  stage_is (Some h) = exchanges (is_same x h) (is_below w x)

module _ (P : ℕ) (words : List Word) (v : ℕ) (w : Word) (low : 1 ≤ v) (few : v ≤ length words) where
  abbrev there : Word
  there = word_at words v

  -- the word after a case of the step
  abbrev word_by : Turn → Word
  word_by t = word_at (words_after {P = P} words (Offering v w) t) v

  load_leaves : (b : Bool) → word_by (if b then Holds else Keeps) ≡ there
  load_leaves true = refl
  load_leaves false = refl

  exchange_leaves : (same lower : Bool) → word_by (if same then Wins else if lower then LosesAndHolds else LosesAndKeeps) ≡ (if same then w else there)
  exchange_leaves true lower = get_or-set_same words (v - 1) w Unreached (omega arith)
  exchange_leaves false true = refl
  exchange_leaves false false = refl

  word_is : (held : Option Word) → word_by (offer_turn w held there) ≡ left_by_step w (stage_of held) there
  word_is None = load_leaves (is_below w there)
  word_is (Some h) = exchange_leaves (is_same there h) (is_below w there)

-- at the place of the machine's actor
pub steps_are : OfferStepsAreTheMachines
steps_are P m actor v w number inside at_offer =
    let a : Actor P = actor_of m actor in
    let step_of : At P → Turn = λ place. turn (max_dist P) place a.held (word_at m.words (vertex_at place)) in
    let t : Turn = step_of (place_of m actor) in
    let kept : actor_of (machine_after m actor) actor ≡ actor_after a t (word_at m.words (vertex_at (place_of m actor))) = get_or-set_same m.actors (actor - 1) _ fresh_actor (omega (arith, number)) in (
      ap (λ (b : Actor P). stage_after (machine_after m actor).last.ended b.held) kept
          ∙ (ap (λ (place : At P). stage_after (with_caller actor (vertex_at place) (call_ended place (step_of place) (word_at m.words (vertex_at place)))) (actor_after a (step_of place) (word_at m.words (vertex_at place))).held) at_offer
          ∙ stage_is P a actor v w (word_at m.words v) a.held),
      ap (λ (place : At P). word_at (words_after m.words place (step_of place)) v) at_offer ∙ word_is P m.words v w inside.0 inside.1 a.held,
    )
