-- What is known of a table at its end: all calls that were made there, and all steps.
use Rattle.std.specs.Prelude.{◌≡◌, ℕ, ◌<◌, ◌≤◌, List, length, sum_by}
use mathlib.Core.Option.{some}
use mathlib.Core.List.{IsPrefix}
use lib.ListN.{get_elem?}
use Rattle.sp_word.specs.Word.{Word}
use Rattle.sp_word.specs.History.{Event, run, IsLegal}
use Rattle.sp_offer.specs.Histories.{blank, AreLawful}
use Rattle.sp_offer.specs.Interleaving.{TakenStep, calls_of, IsInterleaving, AreWithin}
use Rattle.sp_offer.specs.Trail.{Found, turns_of, EachTaken}
use Rattle.sp_offer.specs.Story.{Knowledge, times, once_below, copied_word}

-- The words are those to which all calls have led. The calls are one legal history, which begins with what the caller
-- has seen; each of them is one caller's own, and they are the calls of an interleaving of the callers' steps.
pub record IsEnd (law : ℕ → Word → Type 0) (caller : Knowledge) (words : List Word) : Type 0 where
  pub history : List Event
  pub legal : IsLegal blank history
  pub lawful : AreLawful law history
  pub seen : IsPrefix caller.story.seen history
  pub ends : (v : ℕ) → 0 < v → v ≤ length words → copied_word words v ≡ run blank history v
  -- The places of each caller's own calls, by the callers' numbers.
  pub owns : List (List ℕ)
  pub mine : get_elem? owns caller.number ≡ some caller.story.own
  pub owned : (p : ℕ) → sum_by (times p) owns ≡ once_below p (length history)
  -- The steps of all callers.
  pub steps : List TakenStep
  pub interleaved : IsInterleaving steps
  pub calls : history ≡ calls_of steps
  pub within : AreWithin (length words) (length owns) steps
  -- The trails of all callers, by their numbers. Each step of all callers is in one of them, once.
  pub trails : List (List Found)
  pub my_trail : get_elem? trails caller.number ≡ some caller.trail
  pub taken : EachTaken steps trails
  pub told : (p : ℕ) → sum_by (λ trail. times p (turns_of trail)) trails ≡ once_below p (length steps)
