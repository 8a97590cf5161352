-- Routes in the graph that is kept.
use Rattle.std.specs.Prelude.{◌≡◌, ℕ, List, Result, Ok, Err}
use Rattle.std.specs.declared.option.Option.{Option}
use Rattle.std.specs.declared.option.Option.TheVariants.{None, Some}
use Rattle.sp_paths.specs.Paths.{Graph}
use Rattle.sp_lists.specs.declared.outcomes.Outcome.{Outcome}
use Rattle.sp_lists.specs.declared.outcomes.Outcome.TheVariants.{NoGraph}
use Rattle.sp_lists.specs.declared.routes.RouteSize.{RouteSize}
use Rattle.sp_lists.specs.Routes.{RouteSlices, IsNoRoute, IsRouteOf, AreRoutesOf}
use Rattle.spt_c.specs.declared.routes.SptRoute.{SptRoute}
use Rattle.spt_c.specs.Outcome.{answer_of}

-- These are the numbers of the header. If there is no route, they are what a call for a tree tells.
abbrev pub route_of : Result RouteSize Outcome → SptRoute
route_of (Ok size) = record { status = 0; vertex = 0; dist = size.dist; index = 0; count = size.count }
route_of (Err told) = record { status = (answer_of told).status; vertex = (answer_of told).vertex; dist = 0; index = (answer_of told).index; count = 0 }

-- The route from s to t in the graph that is kept, if there is one.
abbrev pub IsRouteOfKept : Option Graph → (s t : ℕ) → (old new : List ℕ) → Result RouteSize Outcome → Type 0
IsRouteOfKept None s t old new size = IsNoRoute old new size NoGraph
IsRouteOfKept (Some g) s t old new size = IsRouteOf g s t old new size

-- The routes from s to several targets in that graph.
abbrev pub AreRoutesOfKept : Option Graph → (s : ℕ) → (targets : List ℕ) → (old new : RouteSlices) → Outcome → Type 0
AreRoutesOfKept None s targets old new told = (told ≡ NoGraph) × (new ≡ old)
AreRoutesOfKept (Some g) s targets old new told = AreRoutesOf g s targets old new told
