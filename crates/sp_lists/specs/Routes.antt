-- Routes in the slices of a caller.
use Rattle.std.specs.Prelude.{◌≡◌, ◌⊎◌, ◌+◌, ◌++◌, ℕ, List, [], ◌∷◌, length, drop, map, min, flat_map, nat_le, if◌then◌else◌, Result, Ok, Err}
use Rattle.std.specs.declared.option.Option.TheVariants.{None}
use Rattle.sp_paths.specs.Paths.{Graph}
use Rattle.sp_answer.specs.declared.route.RouteAnswer.{RouteAnswer}
use Rattle.sp_answer.specs.declared.route.RouteAnswer.TheVariants.{Found, TooFar as FarVertex, NoWalk}
use Rattle.sp_answer.specs.Routed.{IsRouteAnswerFor}
use Rattle.sp_answer.specs.Run.{AreAnswersBy}
use Rattle.sp_lists.specs.declared.outcomes.Outcome.{Outcome}
use Rattle.sp_lists.specs.declared.outcomes.Outcome.TheVariants.{Done, TooFar, Memory}
use Rattle.sp_lists.specs.declared.routes.RouteSize.{RouteSize}
use Rattle.sp_lists.specs.declared.routes.RouteLists.{RouteLists}
use Rattle.sp_lists.specs.Limits.{reach}
use Rattle.sp_lists.specs.Query.{Query, IsGoodQuery, IsRefusedQuery}

-- ## An answer

-- The distance of an answer, as a matrix has it: the greatest number if no walk leads to the target, and the one before it if the
-- target has no distance up to the greatest and some vertex is too far.
abbrev pub distance_in : RouteAnswer → ℕ
distance_in (Found d route) = d
distance_in (FarVertex v) = 18446744073709551614
distance_in NoWalk = 18446744073709551615

-- The vertices of its route. Without a route there are none.
abbrev pub route_in : RouteAnswer → List ℕ
route_in (Found d route) = route.items
route_in (FarVertex v) = []
route_in NoWalk = []

-- The list with these items at its front, if it has places for all of them; otherwise the list as it is.
abbrev pub with_front : {A : Type 0} → (items there : List A) → List A
with_front items there = if nat_le (length items) (length there) then items ++ drop (length items) there else there

-- ## One route

-- What a call tells: the distance and the number of vertices on the route, or the vertex that is too far.
abbrev pub size_of : RouteAnswer → Result RouteSize Outcome
size_of (Found d route) = Ok (record { dist = d; count = length route.items })
size_of (FarVertex v) = Err (TooFar v)
size_of NoWalk = Ok (record { dist = 18446744073709551615; count = 0 })

-- The answer for t from s is told, and its route is at the front of the slice, if there is room for it.
pub record HasRoute (max : ℕ) (g : Graph) (s t : ℕ) (old new : List ℕ) (size : Result RouteSize Outcome) : Type 0 where
  pub answer : RouteAnswer
  pub is : IsRouteAnswerFor g s t max answer
  pub told : size ≡ size_of answer
  pub vertices : new ≡ with_front (route_in answer) old

-- This is why the call tells no answer, and nothing is written.
abbrev pub IsNoRoute : (old new : List ℕ) → Result RouteSize Outcome → Outcome → Type 0
IsNoRoute old new size why = (size ≡ Err why) × (new ≡ old)

-- The answer is told; or there was no memory, and nothing is written.
abbrev pub IsRouteIn : (max : ℕ) → Graph → (s t : ℕ) → (old new : List ℕ) → Result RouteSize Outcome → Type 0
IsRouteIn max g s t old new size = HasRoute max g s t old new size ⊎ IsNoRoute old new size Memory

-- A call for a route names a source and a target.
abbrev pub route_query : (s t : ℕ) → Query
route_query s t = record { sources = s ∷ []; targets = t ∷ []; delta = 0; limit = None; rows = 0; columns = 0 }

-- Something is wrong with the call, and nothing is written; or nothing is wrong, and this is the answer.
abbrev pub IsRouteOf : Graph → (s t : ℕ) → (old new : List ℕ) → Result RouteSize Outcome → Type 0
IsRouteOf g s t old new size = ((why : Outcome) × IsRefusedQuery g.n (route_query s t) 0 why × IsNoRoute old new size why) ⊎ (IsGoodQuery g.n (route_query s t) 0 × IsRouteIn (reach g.n) g s t old new size)

-- ## Several routes

-- The slices hold the distance of each target and the place where its route ends, and the vertices of all routes.
pub record RouteSlices : Type 0 where
  pub dist : List ℕ
  pub ends : List ℕ
  pub vertices : List ℕ

-- These are the three slices together.
abbrev pub route_slices : (dist ends vertices : List ℕ) → RouteSlices
route_slices dist ends vertices = record { dist = dist; ends = ends; vertices = vertices }

-- These are the program's lists.
abbrev pub slices_of : RouteLists → RouteSlices
slices_of lists = route_slices lists.dist.items lists.ends.items lists.vertices.items

-- The places where the routes end that stand one after another, with so many vertices before them.
abbrev pub ends_after : (before : ℕ) → List RouteAnswer → List ℕ
ends_after before [] = []
ends_after before (answer ∷ more) = (before + length (route_in answer)) ∷ ends_after (before + length (route_in answer)) more

-- What is written of answers: their distances, the ends of their routes, and the vertices of all routes, one after another.
abbrev pub lists_of : List RouteAnswer → RouteSlices
lists_of answers = route_slices (map distance_in answers) (ends_after 0 answers) (flat_map route_in answers)

-- The slices with such lists at their fronts, each if there is room for all of it.
abbrev pub with_fronts : (lists there : RouteSlices) → RouteSlices
with_fronts lists there = route_slices (with_front lists.dist there.dist) (with_front lists.ends there.ends) (with_front lists.vertices there.vertices)

-- These are the answers for the targets from s, in their order.
abbrev pub AreRouteAnswers : (max : ℕ) → Graph → (s : ℕ) → (targets : List ℕ) → List RouteAnswer → Type 0
AreRouteAnswers max g s targets answers = AreAnswersBy (λ t told. IsRouteAnswerFor g s t max told) targets answers

-- These are the lists of those answers.
pub record AreRouteLists (max : ℕ) (g : Graph) (s : ℕ) (targets : List ℕ) (lists : RouteSlices) : Type 0 where
  pub answers : List RouteAnswer
  pub are : AreRouteAnswers max g s targets answers
  pub is : lists ≡ lists_of answers

-- The answers are written, and nothing else; or there was no memory, and nothing is written.
abbrev pub AreRoutesIn : (max : ℕ) → Graph → (s : ℕ) → (targets : List ℕ) → (old new : RouteSlices) → Outcome → Type 0
AreRoutesIn max g s targets old new Done = (lists : RouteSlices) × AreRouteLists max g s targets lists × (new ≡ with_fronts lists old)
AreRoutesIn max g s targets old new Memory = new ≡ old
AreRoutesIn max g s targets old new told = ⊥

-- A call for several routes names a source and targets, and writes a distance and an end for each target.
abbrev pub routes_query : (s : ℕ) → (targets : List ℕ) → Query
routes_query s targets = record { sources = s ∷ []; targets = targets; delta = 0; limit = None; rows = 1; columns = length targets }

-- This is the number of places for distances and ends.
abbrev pub places_for : RouteSlices → ℕ
places_for slices = min (length slices.dist) (length slices.ends)

-- Something is wrong with the call, and nothing is written; or nothing is wrong, and this is the answer.
abbrev pub AreRoutesOf : Graph → (s : ℕ) → (targets : List ℕ) → (old new : RouteSlices) → Outcome → Type 0
AreRoutesOf g s targets old new told = (IsRefusedQuery g.n (routes_query s targets) (places_for old) told × (new ≡ old)) ⊎ (IsGoodQuery g.n (routes_query s targets) (places_for old) × AreRoutesIn (reach g.n) g s targets old new told)
