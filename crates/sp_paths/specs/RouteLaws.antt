-- The theorems about routes. Each statement is the contract of a function of this crate.
use Rattle.std.specs.Prelude.{◌≡◌, ◌≢◌, ℕ, ◌<◌, List, ◌∷◌, map, slice_index_or, length}
use Rattle.sp_paths.specs.declared.arc.Arc.{Arc}
use Rattle.sp_paths.specs.Paths.{Graph, IsGraph, IsVertex, IsLeast, IsWalk, walk_length}
use Rattle.sp_paths.specs.Routes.{IsRoute}

-- Where there is a least length, there is a route.
abbrev pub RoutesExist : Type 0
RoutesExist = (g : Graph) (s t d : ℕ) → IsGraph g → IsVertex g.n s → IsLeast g s t d → (route : List ℕ) × IsRoute g s t route

-- There is at most one.
abbrev pub RoutesAreOne : Type 0
RoutesAreOne = (g : Graph) (s t : ℕ) (a b : List ℕ) → IsRoute g s t a → IsRoute g s t b → a ≡ b

-- A walk whose arcs enter the vertices of the route behind s, and whose length is d.
pub record IsWalkOf (g : Graph) (s t d : ℕ) (route : List ℕ) (walk : List Arc) : Type 0 where
  pub walk_there : IsWalk g s t walk
  pub dist : walk_length walk ≡ d
  pub vertices : route ≡ s ∷ map (λ a. a.head) walk

-- A route is a walk, and its length is the least one.
abbrev pub RoutesAreWalks : Type 0
RoutesAreWalks = (g : Graph) (s t d : ℕ) (route : List ℕ) → IsRoute g s t route → IsLeast g s t d → (walk : List Arc) × IsWalkOf g s t d route walk

-- No vertex stands in a route twice.
abbrev pub RoutesRise : Type 0
RoutesRise = (g : Graph) (s t : ℕ) (route : List ℕ) → IsGraph g → IsRoute g s t route → (i j : ℕ) → i < j → j < length route → slice_index_or route i 0 ≢ slice_index_or route j 0
