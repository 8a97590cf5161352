-- The answer of a run for one target of its source, with the route to it.
use Rattle.std.specs.Prelude.{ℕ, ◌≤◌, List, Some, None}
use Rattle.sp_paths.specs.Paths.{Graph, IsLeast, IsNear, IsFar}
use Rattle.sp_paths.specs.Routes.{IsRoute}
use Rattle.sp_answer.specs.declared.route.RouteAnswer.{RouteAnswer as Told}
use Rattle.sp_answer.specs.declared.route.RouteAnswer.TheVariants as told

-- The answer for a target with its route: its distance and the vertices of the route, or a vertex that is too far, or that there is no
-- walk to it.
pub data RouteAnswer : Type 0 where
  Found : (dist : ℕ) (route : List ℕ) → RouteAnswer
  TooFar : (vertex : ℕ) → RouteAnswer
  NoWalk : RouteAnswer

-- The answer for t is its least length and the route to it if that length is at most max; otherwise the vertex that is too far, if
-- there is one; otherwise that no walk leads to it.
abbrev pub IsRouteAnswer : Graph → (s t max : ℕ) → RouteAnswer → Type 0
IsRouteAnswer g s t max (Found d route) = IsLeast g s t d × (d ≤ max) × IsRoute g s t route
IsRouteAnswer g s t max (TooFar v) = (IsNear g s max t → ⊥) × IsFar g s max (Some v)
IsRouteAnswer g s t max NoWalk = (IsNear g s max t → ⊥) × IsFar g s max None

-- This is the program's answer as an answer of the definitions.
abbrev pub routed_of : Told → RouteAnswer
routed_of (told.Found d route) = Found d route.items
routed_of (told.TooFar v) = TooFar v
routed_of told.NoWalk = NoWalk

-- This is the program's answer for a target of a source.
abbrev pub IsRouteAnswerFor : Graph → (s t max : ℕ) → Told → Type 0
IsRouteAnswerFor g s t max told = IsRouteAnswer g s t max (routed_of told)
