-- A run by a team, from one source or several.
use Rattle.std.specs.Prelude.{◌≡◌, ℕ, ◌≤◌, List, All, length, true}
use Rattle.sp_word.specs.Word.{Word, Pair, is_layout, max_dist, max_pred}
use Rattle.sp_paths.specs.Paths.{IsGraph, IsVertex, IsWithin, word_at}
use Rattle.sp_paths.specs.Forests.{IsTableFrom}
use Rattle.sp_offer.specs.Story.{Knowledge, known_table}
use Rattle.sp_run.specs.Sources.{WalkSources}

-- Sources in a graph, in the ranges of words with P bits of predecessor.
pub record IsPlace (P : ℕ) (run : WalkSources) : Type 0 where
  pub layout : is_layout P ≡ true
  pub graph : IsGraph run.graph
  pub most : run.graph.n ≤ max_pred P
  pub vertices : All (IsVertex run.graph.n) run.sources

-- A table takes the walks from the sources, and has a word for each vertex.
abbrev pub TakesWalks : (run law : WalkSources) → (vertices : ℕ) → Type 0
TakesWalks run law vertices = (law ≡ run) × (vertices ≡ run.graph.n)

-- A caller knows the word of each of these vertices to be (0, 0).
abbrev pub KnowsOwn : List ℕ → Knowledge → Type 0
KnowsOwn sources c = All (λ s. known_table c.story s ≡ Pair 0 0) sources

-- A copy of all words holds walks from the sources.
abbrev pub IsOfWalks : (P : ℕ) → WalkSources → List Word → Type 0
IsOfWalks P run words = (length words ≡ run.graph.n) × IsTableFrom run.graph run.sources (word_at words) × IsWithin run.graph.n (max_dist P) (word_at words)
