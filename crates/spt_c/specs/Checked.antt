-- The verdict on slices that C passes as a tree.
use Rattle.std.specs.Prelude.{◌<◌, ◌-◌, ◌⊎◌, ℕ, List, [], ◌∷◌, Some}
use Rattle.sp_paths.specs.Paths.{Graph, IsVertex, IsFar}
use Rattle.sp_lists.specs.declared.outcomes.Outcome.{Outcome}
use Rattle.sp_lists.specs.declared.outcomes.Outcome.TheVariants.{Done, TooFar, Memory, Wrong}
use Rattle.sp_lists.specs.Limits.{reach}
use Rattle.sp_lists.specs.Blocks.{Slices, places, HasSameAt, HasTreeAt}
use Rattle.spt_c.specs.declared.arcs.SptArc.{SptArc}
use Rattle.spt_c.specs.Arcs.{graph_of}
use Rattle.spt_c.specs.Asked.{asked, IsGood, IsRefused}

-- The vertex v is the first of n vertices at which the slices differ.
pub record IsFirstOther (n : ℕ) (right there : Slices) (v : ℕ) : Type 0 where
  pub vertex : IsVertex n v
  pub differs : HasSameAt right there (v - 1) → ⊥
  pub before : (k : ℕ) → k < v - 1 → HasSameAt right there k

-- This is the first vertex at which the slices differ from those with the tree from s.
pub record IsFirstWrong (max : ℕ) (g : Graph) (s : ℕ) (there : Slices) (v : ℕ) : Type 0 where
  pub right : Slices
  pub tree : HasTreeAt max g s 0 right
  pub other : IsFirstOther g.n right there v

-- The slices hold the tree from s, or this is where they don't, or why there is no tree.
abbrev pub IsVerdict : (max : ℕ) → Graph → (s : ℕ) → Slices → Outcome → Type 0
IsVerdict max g s there Done = HasTreeAt max g s 0 there
IsVerdict max g s there (Wrong v) = IsFirstWrong max g s there v
IsVerdict max g s there (TooFar v) = IsFar g s max (Some v)
IsVerdict max g s there Memory = Unit {0}
IsVerdict max g s there told = ⊥

-- Something is wrong with the call; or nothing is, and this is the verdict.
abbrev pub IsChecked : (n : ℕ) → List SptArc → (s : ℕ) → Slices → Outcome → Type 0
IsChecked n arcs s there told = IsRefused (asked arcs n (s ∷ []) 0) (places there) told ⊎ (IsGood (asked arcs n (s ∷ []) 0) (places there) × IsVerdict (reach n) (graph_of n arcs) s there told)
