-- Every vertex that a walk leads to has a route.
use Rattle.std.proofs.Common.{◌≡◌, ℕ, zero, suc, ◌<◌, ◌≤◌, ◌⊎◌, inl, inr, List, [], ◌∷◌, ◌++◌, refl, sym, arith}
use Rattle.std.proofs.lemmas.Bool.{cases_eq}
use Rattle.sp_paths.specs.Paths.{Graph, IsGraph, IsLeast, IsTreePair}
use Rattle.sp_paths.proofs.Walks.{arc_in}
use Rattle.sp_paths.proofs.OneForest.{only_one, least_of, pair_to}
use Rattle.sp_paths.proofs.Existence.{forest_pair}
use Rattle.sp_paths.specs.Routes.{IsRoute}
use Rattle.sp_paths.specs.RouteLaws.{RoutesExist}
use Rattle.sp_paths.proofs.RouteSteps.{route_push}

module _ (g : Graph) (gr : IsGraph g) (s : ℕ) where
  tree_pair : (v d : ℕ) → (v ≡ s → ⊥) → IsLeast g s v d → (p : ℕ) × IsTreePair g s v d p
  tree_pair v d other least =
      let (p, pair) = forest_pair g gr (s ∷ []) v d (λ here. other (only_one s v here)) (least_of g s v d least) in
      (p, pair_to g s v d p pair)

  abbrev HasRoute : (v : ℕ) → Type 0
  HasRoute v = (route : List ℕ) × IsRoute g s v route

  -- the route to a vertex, where those to nearer ones are known
  route_by : (v d : ℕ) → ((p c : ℕ) → c < d → IsLeast g s p c → HasRoute p) → (p : ℕ) × IsTreePair g s v d p → (v ≡ s → ⊥) → HasRoute v
  route_by v d nearer (p, pair) other =
      let (c, l, before, a, sum) = pair.before in
      let long : 1 ≤ l = (arc_in g gr p v l a).2 in
      let (route, is) = nearer p c (omega arith) before in
      (route ++ v ∷ [], route_push g s p v route is (other, d, pair))

  route_below : (bound v d : ℕ) → d < bound → IsLeast g s v d → HasRoute v
  route_below zero v d below least = absurd (omega arith)
  route_below (suc bound) v d below least = go (cases_eq v s) (λ p c nearer before. route_below bound p c (omega arith) before)
    where
      go : (v ≡ s) ⊎ (v ≡ s → ⊥) → ((p c : ℕ) → c < d → IsLeast g s p c → HasRoute p) → HasRoute v
      go (inl own) nearer = (s ∷ [], (refl, sym own))
      go (inr other) nearer = route_by v d nearer (tree_pair v d other least) other

pub routes_exist : RoutesExist
routes_exist g s t d gr in' least = route_below g gr s (suc d) t d (omega arith) least
