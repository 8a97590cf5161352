-- What a tree or a forest claims of a graph, up to a limit if there is one.
use Rattle.std.specs.Prelude.{◌≡◌, ℕ, ◌≤◌, ◌<◌, List, [], ◌∷◌, Option, Some, None, if◌then◌else◌, ◌==◌, Bool, false}
use Rattle.sp_word.specs.Word.{Word, Unreached, Pair}
use Rattle.sp_word.specs.History.{Table}
use Rattle.sp_answer.specs.Table.{TreeTable}
use Rattle.sp_answer.specs.Table.{table_of as table_of_tree}
use Rattle.sp_answer.specs.ForestTable.{Row, ForestTable, table_of, root_of}
use Rattle.sp_cert.specs.declared.sources.SourceRule.{SourceRule}
use Rattle.sp_cert.specs.declared.sources.SourceRule.TheVariants.{One, WithoutPred}

-- A claim has the sources, the limit if there is one, the word of each vertex, and its root if roots are given.
pub record Claim : Type 0 where
  pub sources : SourceRule
  pub limit : Option ℕ
  pub words : Table
  pub roots : Option (ℕ → Option ℕ)

-- This is what the words of a tree from s claim.
abbrev pub tree_claim : (s : ℕ) → (limit : Option ℕ) → Table → Claim
tree_claim s limit words = record { sources = One s; limit = limit; words = words; roots = None }

-- This is what a tree claims.
abbrev pub claim_of_tree : TreeTable → (limit : Option ℕ) → Claim
claim_of_tree t limit = tree_claim t.source limit (table_of_tree t)

-- This is what a forest claims.
abbrev pub claim_of_forest : ForestTable → (limit : Option ℕ) → Claim
claim_of_forest f limit = record { sources = WithoutPred; limit = limit; words = table_of f; roots = Some (root_of f) }

-- The vertex v is a source: the named one, or in a forest a reached one that has predecessor 0.
abbrev pub IsSource : SourceRule → Table → (v : ℕ) → Type 0
IsSource (One s) words v = v ≡ s
IsSource WithoutPred words v = (d : ℕ) × (words v ≡ Pair d 0)

-- The distance is at most the limit, if there is one.
abbrev pub IsUpTo : (limit : Option ℕ) → (d : ℕ) → Type 0
IsUpTo None d = Unit {0}
IsUpTo (Some limit) d = d ≤ limit

-- The distance of the word, if it is reached, is at most the limit, if there is one.
abbrev pub IsInReach : (limit : Option ℕ) → Word → Type 0
IsInReach limit Unreached = Unit {0}
IsInReach limit (Pair d p) = IsUpTo limit d

-- There is a limit, and the distance is above it.
abbrev pub IsAbove : (limit : Option ℕ) → (d : ℕ) → Type 0
IsAbove None d = ⊥
IsAbove (Some limit) d = limit < d

-- The word is reached without a predecessor.
abbrev pub has_no_pred : Word → Bool
has_no_pred Unreached = false
has_no_pred (Pair d p) = p == 0

-- These are the vertices whose row has predecessor 0.
abbrev pub sources_of : List Row → List ℕ
sources_of [] = []
sources_of (row ∷ more) = if has_no_pred row.1 then row.0 ∷ sources_of more else sources_of more

-- These are the sources of a forest: the vertices whose row has predecessor 0.
abbrev pub sources_in : ForestTable → List ℕ
sources_in f = sources_of f.rows
