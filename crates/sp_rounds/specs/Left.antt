-- What the leader still has to run, and what a whole round has done.
use Rattle.std.specs.Prelude.{◌≡◌, ℕ, zero, suc, ◌+◌, ◌<◌, List, [], ◌∷◌, ◌++◌, map, flat_map, All, sum_by, ◌==◌, if◌then◌else◌, Bool, true, false, slice_index_or}
use Rattle.sp_word.specs.Word.{Word}
use Rattle.sp_word.specs.History.{Event}
use Rattle.sp_paths.specs.Rows.{IsArcRelaxed}
use Rattle.sp_graph.specs.RowsValue.{Split}
use Rattle.sp_offer.specs.Story.{Knowledge, known_table, own_calls}
use Rattle.sp_bins.specs.declared.entry.Entry.{Entry}
use Rattle.sp_rounds.specs.declared.task.Task.{Task}
use Rattle.sp_rounds.specs.Offers.{AskedOffer, arcs_of, offers_of, AreSameOffers}
use Rattle.sp_rounds.specs.Calls.{question_of, entries, IsNearer}
use Rattle.sp_rounds.specs.Later.{IsLater}
use Rattle.sp_rounds.specs.Work.{TaskOffers, MadeCalls, offers_at, calls_weight}

-- This counts how often the number k occurs among the receipts.
abbrev pub tally : ℕ → List ℕ → ℕ
tally k [] = 0
tally k (r ∷ rs) = (if (r == k) then 1 else 0) + tally k rs

-- A number below n is marked exactly if it occurs among the receipts.
abbrev pub IsMarked : ℕ → List ℕ → List Bool → Type 0
IsMarked n receipts marks =
    (k : ℕ) → k < n → (slice_index_or marks k false ≡ true → 0 < tally k receipts) × (slice_index_or marks k false ≡ false → tally k receipts ≡ 0)

-- This is the sum g 0 + g 1 + .. + g (n - 1).
abbrev pub upto : (ℕ → ℕ) → ℕ → ℕ
upto g zero = 0
upto g (suc n) = upto g n + g n

-- This is the value of g at each number without a mark.
abbrev pub unmarked_value : List Bool → (ℕ → ℕ) → ℕ → ℕ
unmarked_value marks g k = if slice_index_or marks k false then 0 else g k

-- The jobs below n without a mark were run.
abbrev pub RanLeft : (ℕ → Word → Type 0) → List TaskOffers → List Bool → ℕ → Knowledge → Knowledge → List Entry → List Entry → Type 0
RanLeft law jobs marks n before after bag bag' =
    (calls : List Event) × MadeCalls law calls before after bag bag'
    × ((h : AskedOffer → ℕ) → calls_weight h calls ≡ upto (unmarked_value marks (λ k. sum_by h (offers_at jobs k))) n)

-- ## Rounds

-- Each arc of the task was relaxed at its distance: what the caller knows is at most what the arc offered.
abbrev pub IsTaskDone : (max : ℕ) → Split → Knowledge → Task → Type 0
IsTaskDone max rows after t = All (IsArcRelaxed max (known_table after.story) t.dist) (arcs_of rows t)

-- The caller's new calls are exactly the offers of the tasks, each made once. The caller knows every word of them. Each
-- call that was answered Shorter gave its entry, which is nearer than what the caller knew before.
pub record RoundDone (law : ℕ → Word → Type 0) (max : ℕ) (rows : Split) (tasks : List Task) (before after : Knowledge) (found : List Entry) : Type 0 where
  pub later : IsLater law before after
  pub calls : List Event
  pub own : own_calls after.story ≡ own_calls before.story ++ calls
  pub each : AreSameOffers (map question_of calls) (flat_map (offers_of max rows) tasks)
  pub shorter : found ≡ entries calls
  pub nearer : All (IsNearer (known_table before.story)) found
  pub relaxed : All (IsTaskDone max rows after) tasks
