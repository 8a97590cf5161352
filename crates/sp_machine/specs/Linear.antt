-- The definition of a linear run.
use Rattle.std.specs.Prelude.{◌≡◌, ℕ, ◌≤◌, List, map, All, IsPermutation}
use Rattle.std.specs.List.Sorted.{IsStrictlyIncreasing}
use Rattle.sp_word.specs.History.{Table, Event, Call as Asked, run, IsLegal}
use Rattle.sp_word.specs.History.{Offer as OfferAsked, Read as ReadAsked}
use Rattle.sp_machine.specs.declared.effect.Call.{Call}
use Rattle.sp_machine.specs.declared.effect.Call.TheVariants.{Offer, Read}
use Rattle.sp_machine.specs.declared.report.Finished.{Finished}
use Rattle.sp_machine.specs.Programme.{IsNumber}

-- This is what a call asked, with its reply.
abbrev pub question_of : {P : ℕ} → Call P → Asked
question_of (Offer word found reply) = OfferAsked word found reply
question_of (Read found) = ReadAsked found

-- This is a finished call as the event of a history.
abbrev pub event_of : {P : ℕ} → Finished P → Event
event_of call = record { by = call.ended.actor; vertex = call.ended.vertex; call = question_of call.ended.call }

-- This is a finished call, and the step at which it takes effect.
pub record LinearPoint (P : ℕ) : Type 0 where
  pub step : ℕ
  pub call : Finished P

-- This is the history of these finished calls.
abbrev pub history : {P : ℕ} → List (LinearPoint P) → List Event
history points = map (λ point. event_of point.call) points

-- There is a history, legal from the opening words, that consists of exactly the finished calls, each once with its
-- answer. Its step numbers rise, and each is between its call's first and last step. The history ends in the final
-- words.
pub record IsLinear {P : ℕ} (n : ℕ) (opening : Table) (finished : List (Finished P)) (final : Table) : Type 0 where
  pub points : List (LinearPoint P)
  pub each_once : IsPermutation finished (map (λ point. point.call) points)
  pub rising : IsStrictlyIncreasing (map (λ point. point.step) points)
  pub within : All (λ point. (point.call.first ≤ point.step) × (point.step ≤ point.call.last)) points
  pub legal : IsLegal opening (history points)
  pub ends : (v : ℕ) → IsNumber n v → run opening (history points) v ≡ final v
