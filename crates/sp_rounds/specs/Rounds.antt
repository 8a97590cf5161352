-- What contracts say about a round, and about the parts that its workers share.
use Rattle.std.specs.Prelude.{◌≡◌, ℕ, ◌+◌, ◌≤◌, List, [], ◌∷◌, All, Bool, Vec, Result, length, max, slice_index_or, vec_len, vec_capacity}
use Rattle.std.specs.declared.alloc.Global.{Global}
use denote.RattleType.{RattleType}
use denote.Param.Send.{IsSync, IsSend}
use Rattle.atomic_table.specs.Seated.{TableId}
use Rattle.sp_word.specs.Word.{Word, max_dist}
use Rattle.sp_paths.specs.declared.arc.Arc.{Arc}
use Rattle.sp_graph.specs.RowsValue.{Split}
use Rattle.sp_offer.specs.Order.{lawful}
use Rattle.sp_offer.specs.Story.{Knowledge}
use Rattle.sp_offer.specs.Rule.{TableView}
use Rattle.sp_bins.specs.declared.entry.Entry.{Entry}
use Rattle.sp_rounds.specs.declared.task.Task.{Task}
use Rattle.sp_rounds.specs.declared.task.Round.{Round}
use Rattle.sp_rounds.specs.declared.round.RoundMemory.{RoundMemory}
use Rattle.sp_rounds.specs.declared.workers.Done.{Done}
use Rattle.sp_rounds.specs.declared.workers.RoundOut.{RoundOut}
use Rattle.sp_rounds.specs.declared.workers.RoundRefused.{RoundRefused}
use Rattle.sp_rounds.specs.declared.workers.stealing.WorkerStart.{WorkerStart}
use Rattle.sp_rounds.specs.Offers.{IsTask, arcs_of, offer_along, offers_along}
use Rattle.sp_rounds.specs.Later.{IsLater, HasLegalHistory}
use Rattle.sp_rounds.specs.Work.{TaskOffers, jobs_of, offers_at, IsReady, AreOf, AreJoined, Joined, MadeOffers, Did, did, Goes, Answers}
use Rattle.sp_rounds.specs.Left.{RanLeft, RoundDone}

-- ## A round

module _ {L : Type 0} {P : ℕ} where
  -- These are the jobs of the round's tasks.
  abbrev pub jobs_in : Round L P → List TaskOffers
  jobs_in round = jobs_of (max_dist P) round.rows.now round.tasks.now

  -- These are the arcs of the task with this number.
  abbrev pub AreArcsOfTask : Round L P → ℕ → List Arc → Type 0
  AreArcsOfTask round number arcs = (t : Task) → arcs ≡ arcs_of round.rows.now (slice_index_or round.tasks.now number t)

  module _ (allows : L → ℕ → Word → Type 0) (round : Round L P) where
    -- These are the words that its table takes.
    abbrev pub law_in : ℕ → Word → Type 0
    law_in = lawful P (allows round.table.now.law)

    -- The table takes the offers of each task.
    abbrev pub TakesTasks : Type 0
    TakesTasks = All (IsTask law_in (max_dist P) round.rows.now) round.tasks.now

    -- The tables have room for each vertex, and the table takes the offers of each task.
    abbrev pub IsReadyRound : Type 0
    IsReadyRound = IsReady P law_in round.table.now.vertices round.claims.now.words round.rows.now round.tasks.now

    -- Each task was run once, and this is the result.
    abbrev pub IsRoundDone : Knowledge → RoundOut → Type 0
    IsRoundDone caller out =
        RoundDone law_in (max_dist P) round.rows.now round.tasks.now caller out.caller out.found.items

    -- This is the same caller after further calls, under the law of the round's table.
    abbrev pub IsLaterIn : (before after : Knowledge) → Type 0
    IsLaterIn before after = IsLater law_in before after

    -- The caller's history is legal under the law of the round's table.
    abbrev pub HasLegalHistoryIn : Knowledge → Type 0
    HasLegalHistoryIn caller = HasLegalHistory law_in caller

    -- A worker ran some of the tasks.
    abbrev pub GoesOn : (before after : Did) → Type 0
    GoesOn before after = Goes law_in (jobs_in round) round.number before after

    -- A worker made the offers of this task.
    abbrev pub RunsTask : (number : ℕ) → (before after : Done) → Type 0
    RunsTask number before after =
        MadeOffers law_in (offers_at (jobs_in round) number) before.caller after.caller before.found.items after.found.items

    -- This is what a worker that starts with this, and the workers of the other deques, give back.
    abbrev pub AllGiveIn : {A : Type 0} → Vec A Global → WorkerStart → Result Done RoundRefused → Type 0
    AllGiveIn others start result =
        Answers law_in (jobs_in round) round.number start.caller start.claimer (vec_len others + 1) result

    -- The tasks without a mark were run.
    abbrev pub RunsUnmarked : List Bool → (before after : Knowledge) → (bag bag' : Vec Entry Global) → Type 0
    RunsUnmarked marks before after bag bag' =
        RanLeft law_in (jobs_in round) marks (length round.tasks.now) before after bag.items bag'.items

-- There are at most as many workers as there are deques, plus the leader.
abbrev pub most_workers : RoundMemory → ℕ
most_workers prepared = max 1 (vec_len prepared.deques.owners)

-- ## Room

-- The list has room for this many more items.
abbrev pub HasRoom : {A : Type 0} → Vec A Global → ℕ → Type 0
HasRoom items more = vec_len items + more ≤ vec_capacity items

-- ## What workers share

-- These are the jobs of the tasks over these rows.
abbrev pub jobs_at : (P : ℕ) → Split → List Task → List TaskOffers
jobs_at P rows tasks = jobs_of (max_dist P) rows tasks

-- The lowering, the law, the gate and the runtime may be shared with other threads.
abbrev pub AreShared : (runtime gate lowering law : RattleType) → Type 0
AreShared runtime gate lowering law =
    IsSync runtime × IsSync gate × IsSync lowering × IsSend lowering × IsSync law × IsSend law

module _ {L : Type 0} (P : ℕ) (allows : L → ℕ → Word → Type 0) (table : TableView L) where
  module _ (dist : ℕ) where
    -- The caller made the offer of this arc.
    abbrev pub IsOffer : Arc → (before after : Knowledge) → (bag bag' : Vec Entry Global) → Type 0
    IsOffer arc before after bag bag' =
        MadeOffers (lawful P (allows table.law)) (offer_along dist arc ∷ []) before after bag.items bag'.items

    -- The caller made the offers of these arcs.
    abbrev pub Relaxes : List Arc → (before after : Knowledge) → (bag bag' : Vec Entry Global) → Type 0
    Relaxes arcs before after bag bag' =
        MadeOffers (lawful P (allows table.law)) (offers_along (max_dist P) dist arcs) before after bag.items bag'.items

  -- The tables have room for each vertex, and the table takes the offers of each task.
  abbrev pub IsReadyFor : TableId → Split → List Task → Type 0
  IsReadyFor claims rows tasks = IsReady P (lawful P (allows table.law)) table.vertices claims.words rows tasks

  -- A worker's caller and claimer belong to these tables.
  abbrev pub CanWork : TableId → Split → List Task → WorkerStart → Type 0
  CanWork claims rows tasks start = IsReadyFor claims rows tasks × AreOf table.id claims start.caller start.claimer

  -- This is what one worker gives back.
  abbrev pub OneGives : List TaskOffers → (number : ℕ) → WorkerStart → Result Done RoundRefused → Type 0
  OneGives jobs number start result =
      Answers (lawful P (allows table.law)) jobs number start.caller start.claimer 1 result

  -- This is what one worker and the workers of the other deques give back together.
  abbrev pub AllGive : {A : Type 0} → List TaskOffers → (number : ℕ) → Vec A Global → WorkerStart → Result Done RoundRefused → Type 0
  AllGive jobs number others start result =
      Answers (lawful P (allows table.law)) jobs number start.caller start.claimer (vec_len others + 1) result

  -- Two callers and two claimers became one of each.
  abbrev pub JoinsTokens : (first second both : RoundRefused) → Type 0
  JoinsTokens first second both =
      AreJoined (lawful P (allows table.law)) first.caller second.caller both.caller first.claimer second.claimer both.claimer

  -- This says the same of the caller and the claimer of two groups.
  abbrev pub JoinsTokensOf : (first second : Done) → (both : RoundRefused) → Type 0
  JoinsTokensOf first second both =
      AreJoined (lawful P (allows table.law)) first.caller second.caller both.caller first.claimer second.claimer both.claimer

  -- Two groups became one.
  abbrev pub JoinsDone : (first second both : Done) → Type 0
  JoinsDone first second both = Joined (lawful P (allows table.law)) (did first) (did second) (did both)

-- The joined group counts at most the workers of the two, and at least those of the first.
abbrev pub CountsBoth : (first second both : Done) → Type 0
CountsBoth first second both = (first.started ≤ both.started) × (both.started ≤ first.started + second.started)
