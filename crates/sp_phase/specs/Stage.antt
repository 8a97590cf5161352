-- What a run works on.
use Rattle.std.specs.Prelude.{◌≡◌, ℕ, ◌≤◌, true}
use Rattle.sp_rounds.specs.Seated.{TableId}
use Rattle.sp_word.specs.Word.{Word, is_layout, max_dist, max_pred}
use Rattle.sp_paths.specs.Paths.{Graph, IsGraph, IsVertex, IsLawful}
use Rattle.sp_graph.specs.RowsValue.{Split}
use Rattle.sp_word.specs.History.{Table}
use Rattle.sp_offer.specs.Order.{IsNoMore, IsKnownWord, lawful}
use Rattle.sp_offer.specs.Story.{Knowledge, known_table}
use Rattle.sp_run.specs.Walks.{WalksFrom}
use Rattle.sp_answer.specs.declared.answer.RunError.{RunError}
use Rattle.sp_answer.specs.declared.answer.RunError.TheVariants.{Memory, TooFar, NoSuchVertex}

-- A stage is a graph, a source in it, the width of a bucket, the tables that the run has for words and for claims, and
-- the number of tasks from which a round is shared.
pub record Stage : Type 0 where
  pub graph : Graph
  pub source : ℕ
  pub delta : ℕ
  pub table : TableId
  pub claims : TableId
  pub shared_from : ℕ

-- These are the words that the table takes.
abbrev pub law_of : (P : ℕ) → Stage → ℕ → Word → Type 0
law_of P st = lawful P (IsLawful st.graph st.source)

-- These are the rows of the stage's graph, split at its width.
abbrev pub rows_of : Stage → Split
rows_of st = record { graph = st.graph; delta = st.delta }

-- The graph, the source and the width are in the ranges of words with P bits of predecessor.
pub record IsStage (P : ℕ) (st : Stage) : Type 0 where
  pub layout : is_layout P ≡ true
  pub graph : IsGraph st.graph
  pub most : st.graph.n ≤ max_pred P
  pub source : IsVertex st.graph.n st.source
  pub wide : 1 ≤ st.delta
  pub narrow : st.delta ≤ max_dist P

-- This is a stage of the graph.
abbrev pub IsOf : Graph → (delta source : ℕ) → Stage → Type 0
IsOf g delta s st = (st.graph ≡ g) × (st.source ≡ s) × (st.delta ≡ delta)

-- The rows and the tables are those of the stage.
pub record AreOfStage (st : Stage) (split : Split) (walks : WalksFrom) (words claims : ℕ) : Type 0 where
  pub rows : split ≡ rows_of st
  pub law : walks ≡ record { graph = st.graph; source = st.source }
  pub vertices : words ≡ st.graph.n
  pub slots : st.graph.n ≤ claims

-- The known word of no vertex has risen.
abbrev pub Falls : (before after : Table) → Type 0
Falls before after = (v : ℕ) → IsNoMore (after v) (before v)

-- A caller of the stage's table made further calls: no known word has risen, and all known words are lawful.
pub record Learns (P : ℕ) (st : Stage) (before after : Knowledge) : Type 0 where
  pub table : after.table ≡ before.table
  pub falls : Falls (known_table before.story) (known_table after.story)
  pub lawful : (v : ℕ) → IsKnownWord (law_of P st) v (known_table after.story v)

-- This is why no store was made: the error is NoSuchVertex exactly if the source is no vertex.
abbrev pub IsUnstored : Graph → (s : ℕ) → RunError → Type 0
IsUnstored g s Memory = IsVertex g.n s
IsUnstored g s (TooFar v) = ⊥
IsUnstored g s NoSuchVertex = IsVertex g.n s → ⊥
