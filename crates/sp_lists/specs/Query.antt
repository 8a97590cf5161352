-- What is asked about a graph, and what is wrong with the question.
use Rattle.std.specs.Prelude.{◌<◌, ◌≤◌, ◌*◌, ◌++◌, ℕ, List, All, IfSome}
use Rattle.std.specs.declared.option.Option.{Option}
use Rattle.sp_paths.specs.Paths.{IsVertex}
use Rattle.sp_lists.specs.declared.outcomes.Outcome.{Outcome}
use Rattle.sp_lists.specs.declared.outcomes.Outcome.TheVariants.{BadSize, BadDelta, BadLimit, NoSuchVertex}
use Rattle.sp_lists.specs.declared.queries.Query.{Query as Asking}
use Rattle.sp_lists.specs.Limits.{IsCount, IsFirstWithout, reach}

-- A call names sources and perhaps targets, a delta, which is only checked, and a limit if it has one. It writes `rows`
-- rows of `columns` places each.
pub record Query : Type 0 where
  pub sources : List ℕ
  pub targets : List ℕ
  pub delta : ℕ
  pub limit : Option ℕ
  pub rows : ℕ
  pub columns : ℕ

-- This is what contracts see of a question.
abbrev pub query_of : Asking → Query
query_of q = record { sources = q.sources.now; targets = q.targets.now; delta = q.delta; limit = q.limit; rows = q.rows; columns = q.columns }

-- ## What is tested

-- A graph may have n vertices, and there are places for all rows.
abbrev pub HasPlaces : (n : ℕ) → Query → (places : ℕ) → Type 0
HasPlaces n q places = IsCount n × (q.rows * q.columns ≤ places)

-- The limit, if there is one, is at most the greatest distance.
abbrev pub IsLimit : (n : ℕ) → (limit : Option ℕ) → Type 0
IsLimit n limit = IfSome limit (λ limit. limit ≤ reach n)

-- Nothing is wrong with the call about a graph of n vertices, given this number of places in each list that is written.
pub record IsGoodQuery (n : ℕ) (q : Query) (places : ℕ) : Type 0 where
  pub room : HasPlaces n q places
  pub delta : q.delta ≤ reach n
  pub limit : IsLimit n q.limit
  pub vertices : All (IsVertex n) (q.sources ++ q.targets)

-- ## What is wrong

-- This is the first thing that is wrong, among the size, the delta, the limit, the sources and the targets, in this order.
abbrev pub IsRefusedQuery : (n : ℕ) → Query → (places : ℕ) → Outcome → Type 0
IsRefusedQuery n q places BadSize = HasPlaces n q places → ⊥
IsRefusedQuery n q places BadDelta = HasPlaces n q places × (reach n < q.delta)
IsRefusedQuery n q places BadLimit = HasPlaces n q places × (q.delta ≤ reach n) × (IsLimit n q.limit → ⊥)
IsRefusedQuery n q places (NoSuchVertex place) = HasPlaces n q places × (q.delta ≤ reach n) × IsLimit n q.limit × IsFirstWithout (IsVertex n) (q.sources ++ q.targets) place
IsRefusedQuery n q places told = ⊥
