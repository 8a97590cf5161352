-- What a worker did between two moments.
use Rattle.std.specs.Prelude.{◌≡◌, ℕ, zero, suc, ◌+◌, ◌-◌, ◌≤◌, ◌<◌, List, [], ◌∷◌, ◌++◌, length, map, sum_by, All, true, Result, Ok, Err}
use Rattle.atomic_table.specs.Seated.{TableId}
use Rattle.sp_word.specs.Word.{Word, is_layout, max_dist}
use Rattle.sp_word.specs.History.{Event}
use Rattle.sp_offer.specs.Story.{Knowledge, Follows, known_table, own_calls}
use Rattle.sp_rounds.specs.Held.{Held}
use Rattle.sp_rounds.specs.declared.grants.Grant.{Grant}
use Rattle.sp_rounds.specs.Grants.{grant, times}
use Rattle.sp_bins.specs.declared.entry.Entry.{Entry}
use Rattle.sp_graph.specs.RowsValue.{Split}
use Rattle.sp_rounds.specs.declared.task.Task.{Task}
use Rattle.sp_rounds.specs.declared.workers.Receipt.{Receipt}
use Rattle.sp_rounds.specs.declared.workers.Done.{Done}
use Rattle.sp_rounds.specs.declared.workers.RoundRefused.{RoundRefused}
use Rattle.sp_rounds.specs.Offers.{AskedOffer, offers_of, IsTask}
use Rattle.sp_rounds.specs.Calls.{question_of, entries, IsNearer, AllKnown}
use Rattle.sp_rounds.specs.Later.{IsLater}

-- ## Jobs

-- A job is a task as its workers see it: the slot by which it is claimed, and its offers.
pub record TaskOffers : Type 0 where
  pub slot : ℕ
  pub offers : List AskedOffer

-- This is the job of a task, which is claimed by the slot of the task's vertex.
abbrev pub job_of : (max : ℕ) → Split → Task → TaskOffers
job_of max rows t = record { slot = t.vertex - 1; offers = offers_of max rows t }

-- These are the jobs of the tasks, in their order.
abbrev pub jobs_of : (max : ℕ) → Split → List Task → List TaskOffers
jobs_of max rows tasks = map (job_of max rows) tasks

-- These are the offers of job k.
abbrev pub offers_at : List TaskOffers → ℕ → List AskedOffer
offers_at [] k = []
offers_at (j ∷ js) zero = j.offers
offers_at (j ∷ js) (suc k) = offers_at js k

-- This is the slot by which job k is claimed.
abbrev pub slot_at : List TaskOffers → ℕ → ℕ
slot_at [] k = 0
slot_at (j ∷ js) zero = j.slot
slot_at (j ∷ js) (suc k) = slot_at js k

-- This is the grant by which job k may be run.
abbrev pub grant_at : List TaskOffers → ℕ → ℕ → Grant
grant_at jobs number k = grant (slot_at jobs k) number

-- ## Weights

-- This is the total weight of the offers of these jobs, which are given by their numbers.
abbrev pub weight_at : (AskedOffer → ℕ) → List TaskOffers → List ℕ → ℕ
weight_at h jobs ks = sum_by (λ k. sum_by h (offers_at jobs k)) ks

-- This is the total weight of the offers that these calls made.
abbrev pub calls_weight : (AskedOffer → ℕ) → List Event → ℕ
calls_weight h calls = sum_by h (map question_of calls)

-- ## What a round requires

-- The tables have a word and a slot for each vertex, and the table takes the offers of each task.
pub record IsReady (P : ℕ) (law : ℕ → Word → Type 0) (vertices slots : ℕ) (rows : Split) (tasks : List Task) : Type 0 where
  pub layout : is_layout P ≡ true
  pub words : vertices ≡ rows.graph.n
  pub marks : rows.graph.n ≤ slots
  pub each : All (IsTask law (max_dist P) rows) tasks

-- The caller and the claimer belong to these tables.
abbrev pub AreOf : TableId → TableId → Knowledge → Held → Type 0
AreOf table claims caller claimer = (caller.table ≡ table) × (claimer.table ≡ claims)

-- The claimer belongs to this table and has no grants.
abbrev pub HasNoGrants : TableId → Held → Type 0
HasNoGrants claims claimer = (claimer.table ≡ claims) × (claimer.grants ≡ [])

-- ## Calls and receipts

-- This is what a worker, or a group of workers, has done: its caller, its claimer, the numbers of its tasks, and the entries
-- found.
pub record Did : Type 0 where
  pub caller : Knowledge
  pub claimer : Held
  pub receipts : List ℕ
  pub found : List Entry

-- These are the numbers of the tasks that the receipts name.
abbrev pub numbers_of : List Receipt → List ℕ
numbers_of receipts = map (λ r. r.task) receipts

-- This is what a worker has done when it gives back its result.
abbrev pub did : Done → Did
did d = record { caller = d.caller; claimer = d.claimer; receipts = numbers_of d.receipts.items; found = d.found.items }

-- This is what a worker has done at the start: nothing.
abbrev pub at_start : Knowledge → Held → Did
at_start caller claimer = record { caller = caller; claimer = claimer; receipts = []; found = [] }

-- The caller made exactly these calls, and knows each word that they offered. Each call that was answered Shorter put
-- its entry into the bag, and that entry is nearer than what the caller knew before.
pub record MadeCalls (law : ℕ → Word → Type 0) (calls : List Event) (before after : Knowledge) (bag bag' : List Entry) : Type 0 where
  pub later : IsLater law before after
  pub mine : own_calls after.story ≡ own_calls before.story ++ calls
  pub found : bag' ≡ bag ++ entries calls
  pub nearer : All (IsNearer (known_table before.story)) (entries calls)
  pub knows : AllKnown after.story calls

-- The calls are these offers, in their order.
abbrev pub MadeOffers : (ℕ → Word → Type 0) → List AskedOffer → Knowledge → Knowledge → List Entry → List Entry → Type 0
MadeOffers law offers before after bag bag' =
    (calls : List Event) × (map question_of calls ≡ offers) × MadeCalls law calls before after bag bag'

-- Each number is below n.
abbrev pub AllBelow : ℕ → List ℕ → Type 0
AllBelow n [] = Unit {0}
AllBelow n (k ∷ ks) = (k < n) × AllBelow n ks

-- The new receipts belong to exactly the jobs whose offers were made, each of them once. The claimer got a grant for
-- each.
pub record Goes (law : ℕ → Word → Type 0) (jobs : List TaskOffers) (number : ℕ) (before after : Did) : Type 0 where
  pub calls : List Event
  pub more : List ℕ
  pub made : MadeCalls law calls before.caller after.caller before.found after.found
  pub receipts : after.receipts ≡ before.receipts ++ more
  pub inside : AllBelow (length jobs) more
  pub each : (h : AskedOffer → ℕ) → calls_weight h calls ≡ weight_at h jobs more
  pub claims : after.claimer.table ≡ before.claimer.table
  pub granted : (slot round : ℕ) → times slot round (map (grant_at jobs number) more) + times slot round before.claimer.grants ≤ times slot round after.claimer.grants

-- ## Answers of groups of workers

-- A refusal gives back a caller and a claimer that come from these by further calls.
abbrev pub IsRefused : (ℕ → Word → Type 0) → Knowledge → Held → RoundRefused → Type 0
IsRefused law caller claimer r = IsLater law caller r.caller × (r.claimer.table ≡ claimer.table)

-- This is what a group of at most this many workers answers.
abbrev pub Answers : (ℕ → Word → Type 0) → List TaskOffers → (number : ℕ) → Knowledge → Held → (count : ℕ) → Result Done RoundRefused → Type 0
Answers law jobs number caller claimer count (Ok d) =
    Goes law jobs number (at_start caller claimer) (did d) × (1 ≤ d.started) × (d.started ≤ count)
Answers law jobs number caller claimer count (Err r) = IsRefused law caller claimer r

-- This is the caller that comes back, from a success or from a refusal.
abbrev pub caller_of : Result Done RoundRefused → Knowledge
caller_of (Ok d) = d.caller
caller_of (Err r) = r.caller

-- This is the claimer that comes back, from a success or from a refusal.
abbrev pub claimer_of : Result Done RoundRefused → Held
claimer_of (Ok d) = d.claimer
claimer_of (Err r) = r.claimer

-- Two callers became one, and so did two claimers.
pub record AreJoined (law : ℕ → Word → Type 0) (first second both : Knowledge) (claimer other one : Held) : Type 0 where
  pub table : both.table ≡ first.table
  pub follows : Follows law first.story second.story both.story
  pub own : own_calls both.story ≡ own_calls first.story ++ own_calls second.story
  pub claims : one.table ≡ claimer.table
  pub grants : one.grants ≡ claimer.grants ++ other.grants

-- This is what two groups did together.
pub record Joined (law : ℕ → Word → Type 0) (a b both : Did) : Type 0 where
  pub tokens : AreJoined law a.caller b.caller both.caller a.claimer b.claimer both.claimer
  pub receipts : both.receipts ≡ a.receipts ++ b.receipts
  pub found : both.found ≡ a.found ++ b.found

-- This is what two groups answer together.
abbrev pub IsMerged : (ℕ → Word → Type 0) → Result Done RoundRefused → Result Done RoundRefused → Result Done RoundRefused → Type 0
IsMerged law mine theirs (Ok d) =
    (m : Done) × (t : Done) × (mine ≡ Ok m) × (theirs ≡ Ok t) × Joined law (did m) (did t) (did d) × (m.started ≤ d.started) × (d.started ≤ m.started + t.started)
IsMerged law mine theirs (Err r) = AreJoined law (caller_of mine) (caller_of theirs) r.caller (claimer_of mine) (claimer_of theirs) r.claimer
