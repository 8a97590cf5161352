-- A run: the machine's steps, numbered from 1, and what they did.
use Rattle.std.specs.Prelude.{◌≡◌, ℕ, ◌+◌, ◌-◌, List, [], ◌∷◌, ◌++◌, replicate, slice_index_or, slice_set, unwrap_or, All, Contains, Option, Some, None}
use Rattle.sp_word.specs.Word.{Word, Pair}
use Rattle.sp_machine.specs.declared.item.Item.{Item}
use Rattle.sp_machine.specs.declared.item.Item.TheVariants.{Offer, Read, Relax}
use Rattle.sp_machine.specs.declared.effect.Ended.{Ended}
use Rattle.sp_machine.specs.declared.effect.Relaxation.{Relaxation}
use Rattle.sp_machine.specs.declared.effect.ExchangeOutcome.{ExchangeOutcome}
use Rattle.sp_machine.specs.declared.effect.ExchangeOutcome.TheVariants.{Won, Lost}
use Rattle.sp_machine.specs.declared.effect.Effect.{Effect}
use Rattle.sp_machine.specs.declared.report.Finished.{Finished}
use Rattle.sp_paths.specs.Paths.{word_at}
use Rattle.sp_machine.specs.Programme.{Programme, opening_words}
use Rattle.sp_machine.specs.Step.{Machine, fresh_actor, machine_after}

-- A log is what is known about the steps so far.
pub record Log (P : ℕ) : Type 0 where
  -- The number of steps.
  pub steps : ℕ
  -- For each actor, the first step that it made since its last call ended, if it made one.
  pub begun : List (Option ℕ)
  -- The calls that ended.
  pub calls : List (Finished P)
  -- The relaxations that were finished.
  pub relaxed : List Relaxation
  -- The numbers of exchanges that were won and that were lost.
  pub wins : ℕ
  pub losses : ℕ

-- This is the log before the first step.
abbrev pub empty_log : {P : ℕ} → (actors : ℕ) → Log P
empty_log actors = record { steps = 0; begun = replicate actors None; calls = []; relaxed = []; wins = 0; losses = 0 }

-- This is the first step of the call to which the actor's next step belongs.
abbrev pub first_step : {P : ℕ} → Log P → ℕ → ℕ
first_step log actor = unwrap_or (slice_index_or log.begun (actor - 1) None) (log.steps + 1)

-- This is the first step of an actor's call that is still going on, after a step that may have ended the call.
abbrev pub begun_after : {P : ℕ} → Option (Ended P) → (first : ℕ) → Option ℕ
begun_after None first = Some first
begun_after (Some ended) first = None

-- These are the finished calls, with the call that a step ended, if it ended one.
abbrev pub with_call : {P : ℕ} → List (Finished P) → Option (Ended P) → (first last : ℕ) → List (Finished P)
with_call calls None first last = calls
with_call calls (Some ended) first last = calls ++ record { ended = ended; first = first; last = last } ∷ []

-- These are the finished relaxations, with the one that a step finished, if it finished one.
abbrev pub with_relaxation : List Relaxation → Option Relaxation → List Relaxation
with_relaxation relaxed None = relaxed
with_relaxation relaxed (Some r) = relaxed ++ r ∷ []

-- This counts a won exchange.
abbrev pub win : Option ExchangeOutcome → ℕ
win None = 0
win (Some Won) = 1
win (Some Lost) = 0

-- This counts a lost exchange.
abbrev pub loss : Option ExchangeOutcome → ℕ
loss None = 0
loss (Some Won) = 0
loss (Some Lost) = 1

-- This is the log after the actor's next step, which has this effect.
abbrev pub log_after : {P : ℕ} → Log P → (actor : ℕ) → Effect P → Log P
log_after log actor effect = record {
  steps = log.steps + 1;
  begun = slice_set log.begun (actor - 1) (begun_after effect.ended (first_step log actor));
  calls = with_call log.calls effect.ended (first_step log actor) (log.steps + 1);
  relaxed = with_relaxation log.relaxed effect.relaxed;
  wins = log.wins + win effect.exchange;
  losses = log.losses + loss effect.exchange;
}

-- A run so far: its machine and its log.
pub record RunState (P : ℕ) : Type 0 where
  pub machine : Machine P
  pub log : Log P

-- This is the machine before the first step.
abbrev pub opening_machine : {P : ℕ} → Programme P → Machine P
opening_machine p = record {
  rows = p.rows;
  words = opening_words p;
  actors = replicate p.actors fresh_actor;
  last = record { ended = None; relaxed = None; exchange = None };
}

-- This is the run before the first step.
abbrev pub opening_run : {P : ℕ} → Programme P → RunState P
opening_run p = record { machine = opening_machine p; log = empty_log p.actors }

-- This is one step of an actor.
abbrev pub run_step : {P : ℕ} → RunState P → ℕ → RunState P
run_step r actor = record { machine = machine_after r.machine actor; log = log_after r.log actor (machine_after r.machine actor).last }

-- This is the run after one more step of each of these actors in turn.
abbrev pub run_from : {P : ℕ} → RunState P → List ℕ → RunState P
run_from r [] = r
run_from r (actor ∷ more) = run_from (run_step r actor) more

-- This is the run of a programme with a list of actors, one step for each entry.
abbrev pub run_of : {P : ℕ} → Programme P → List ℕ → RunState P
run_of p actors = run_from (opening_run p) actors

-- If an item is a relaxation whose tail is reached at the end, some finished relaxation of the same arc loaded the
-- tail's final distance.
abbrev pub IsItemClosed : {P : ℕ} → (words : List Word) → List Relaxation → Item P → Type 0
IsItemClosed words relaxed (Offer v w) = Unit {0}
IsItemClosed words relaxed (Read v) = Unit {0}
IsItemClosed words relaxed (Relax u v l) = (d q : ℕ) → word_at words u ≡ Pair d q → Contains relaxed (record { tail = u; head = v; len = l; loaded = Some d })

-- Every item of the programme is closed in this way.
abbrev pub IsClosed : {P : ℕ} → Programme P → (words : List Word) → List Relaxation → Type 0
IsClosed p words relaxed = All (λ row. All (IsItemClosed words relaxed) row) p.rows
