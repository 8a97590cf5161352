-- The greatest length of arcs.
use Rattle.std.specs.Prelude.{◌≡◌, ℕ, ◌≤◌, ◌⊎◌, List, [], All, Any}
use Rattle.sp_paths.specs.declared.arc.Arc.{Arc}

-- No arc is longer than l, and some arc has the length l; l is 0 if there is no arc.
pub record IsLongest (arcs : List Arc) (l : ℕ) : Type 0 where
  pub none_longer : All (λ a. a.len ≤ l) arcs
  pub met : ((arcs ≡ []) × (l ≡ 0)) ⊎ Any (λ a. a.len ≡ l) arcs
