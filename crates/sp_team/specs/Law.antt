-- The conditions for running a team.
use Rattle.std.specs.Prelude.{◌≡◌, ℕ, ◌+◌, ◌≤◌, true}
use Rattle.sp_word.specs.Word.{Word, Pair, is_layout, max_dist}
use Rattle.sp_paths.specs.declared.arc.Arc.{Arc}
use Rattle.sp_paths.specs.Paths.{Graph, HasArc}

-- what an arc makes of a pair that the law allows its tail, the law allows its head
abbrev pub AllowsArcs : (law : ℕ → Word → Type 0) → (max : ℕ) → Graph → Type 0
AllowsArcs law max g = (u v l d p : ℕ) → HasArc g u v l → law u (Pair d p) → d + l ≤ max → law v (Pair (d + l) u)

-- what the arc makes of a pair of this distance at its tail, the law allows its head
abbrev pub AllowsSum : (law : ℕ → Word → Type 0) → (max dist : ℕ) → Arc → Type 0
AllowsSum law max dist a = dist + a.len ≤ max → law a.head (Pair (dist + a.len) a.tail)

-- the table has a word for each vertex, and takes what the graph's arcs make of its words
pub record IsReady (P : ℕ) (law : ℕ → Word → Type 0) (vertices : ℕ) (g : Graph) : Type 0 where
  pub layout : is_layout P ≡ true
  pub words : vertices ≡ g.n
  pub arcs : AllowsArcs law (max_dist P) g
