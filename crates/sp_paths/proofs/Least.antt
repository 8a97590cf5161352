-- Where there is a walk there is a least length: whether a walk of a given length exists is decided by going through the arcs.
use Rattle.std.proofs.Common.{◌≡◌, ℕ, zero, suc, ◌+◌, ◌-◌, ◌<◌, ◌≤◌, ◌⊎◌, inl, inr, List, [], ◌∷◌, sym, refl, subst, arith}
use Rattle.std.specs.Prelude.{Contains}
use Rattle.std.proofs.lemmas.Bool.{cases_lt, cases_eq}
use Rattle.sp_paths.specs.declared.arc.Arc.{Arc}
use Rattle.sp_paths.specs.Paths.{Graph, IsGraph, HasArc, HasWalk, IsLeast}
use Rattle.sp_paths.specs.Forests.{HasWalkFromAny, IsNearest}
use Rattle.sp_paths.specs.ForestLaws.{IsLeastOfAll, NearestIsLeastOfAll}
use Rattle.sp_paths.proofs.Walks.{arc_in}
use Rattle.sp_paths.proofs.ForestWalks.{is_source, any_none, any_more, any_cases}
use Rattle.sp_paths.proofs.OneForest.{walk_of, least_to}

-- the smallest number with a property that is decided, or none below a bound
pub smallest : (P : ℕ → Type 0) → ((k : ℕ) → P k ⊎ (P k → ⊥)) → (bound : ℕ) → ((k : ℕ) × P k × ((j : ℕ) → P j → k ≤ j) × (k < bound)) ⊎ ((j : ℕ) → j < bound → P j → ⊥)
smallest P dec zero = inr (λ j h p. absurd (omega arith))
smallest P dec (suc n) = step (smallest P dec n) (dec n)
  where
    over : ((j : ℕ) → j < n → P j → ⊥) → (j : ℕ) → P j → (j < n) ⊎ (n ≤ j) → n ≤ j
    over none j p (inl h) = absurd (none j h p)
    over none j p (inr h) = h

    last : ((j : ℕ) → j < n → P j → ⊥) → (P n → ⊥) → (j : ℕ) → P j → (j < n) ⊎ (n ≤ j) → j < suc n → ⊥
    last none fails j p (inl h) lt = none j h p
    last none fails j p (inr h) lt = let same : j ≡ n = omega arith in fails (subst P same p)

    step : ((k : ℕ) × P k × ((j : ℕ) → P j → k ≤ j) × (k < n)) ⊎ ((j : ℕ) → j < n → P j → ⊥) → P n ⊎ (P n → ⊥) → ((k : ℕ) × P k × ((j : ℕ) → P j → k ≤ j) × (k < suc n)) ⊎ ((j : ℕ) → j < suc n → P j → ⊥)
    step (inl (k, p, least, h)) here = inl (k, p, least, omega arith)
    step (inr none) (inl p) = inl (n, p, (λ j q. over none j q (cases_lt j n)), omega arith)
    step (inr none) (inr fails) = inr (λ j h p. last none fails j p (cases_lt j n) h)

-- some element has the property, or none has
pub any_decided : (P : Arc → Type 0) → ((a : Arc) → P a ⊎ (P a → ⊥)) → (arcs : List Arc) → ((a : Arc) × Contains arcs a × P a) ⊎ ((a : Arc) → Contains arcs a → P a → ⊥)
any_decided P dec [] = inr (λ a c h. absurd (omega (arith, c.1)))
any_decided P dec (b ∷ arcs) = go (dec b) (any_decided P dec arcs)
  where
    later : (a : Arc) → (P b → ⊥) → ((a : Arc) → Contains arcs a → P a → ⊥) → Contains (b ∷ arcs) a → P a → ⊥
    later a fails none (zero, lt, e) h = fails (subst P (sym e) h)
    later a fails none (suc k, lt, e) h = none a (k, omega arith, e) h

    go : P b ⊎ (P b → ⊥) → ((a : Arc) × Contains arcs a × P a) ⊎ ((a : Arc) → Contains arcs a → P a → ⊥) → ((a : Arc) × Contains (b ∷ arcs) a × P a) ⊎ ((a : Arc) → Contains (b ∷ arcs) a → P a → ⊥)
    go (inl h) rest = inl (b, (0, omega arith, refl), h)
    go (inr fails) (inl (a, c, h)) = inl (a, (suc c.0, omega (arith, c.1), c.2), h)
    go (inr fails) (inr none) = inr (λ a. later a fails none)

module _ (g : Graph) (gr : IsGraph g) (ss : List ℕ) where
  -- the arc ends a walk of length d to v
  abbrev Ends : (v d : ℕ) → Arc → Type 0
  Ends v d a = (a.head ≡ v) × (1 ≤ a.len) × (a.len ≤ d) × HasWalkFromAny g ss a.tail (d - a.len)

  -- whether an arc does, where that is known of shorter walks
  ends_decided : (v d : ℕ) → ((u c : ℕ) → c < d → HasWalkFromAny g ss u c ⊎ (HasWalkFromAny g ss u c → ⊥)) → (a : Arc) → Ends v d a ⊎ (Ends v d a → ⊥)
  ends_decided v d shorter a = go (cases_eq a.head v) (cases_lt 0 a.len) (cases_lt d a.len)
    where
      inner : (a.head ≡ v) → (1 ≤ a.len) → (a.len ≤ d) → HasWalkFromAny g ss a.tail (d - a.len) ⊎ (HasWalkFromAny g ss a.tail (d - a.len) → ⊥) → Ends v d a ⊎ (Ends v d a → ⊥)
      inner e long fits (inl w) = inl (e, long, fits, w)
      inner e long fits (inr none) = inr (λ h. none h.3)

      go : (a.head ≡ v) ⊎ (a.head ≡ v → ⊥) → (0 < a.len) ⊎ (a.len ≤ 0) → (d < a.len) ⊎ (a.len ≤ d) → Ends v d a ⊎ (Ends v d a → ⊥)
      go (inr other) _ _ = inr (λ h. other h.0)
      go (inl e) (inr empty) _ = inr (λ h. absurd (omega (arith, h.1)))
      go (inl e) (inl long) (inl over) = inr (λ h. absurd (omega (arith, h.2)))
      go (inl e) (inl long) (inr fits) = inner e (omega arith) fits (shorter a.tail (d - a.len) (omega arith))

  ends_walk : (v d : ℕ) (a : Arc) → Contains g.arcs a → Ends v d a → HasWalkFromAny g ss v d
  ends_walk v d a c (e, long, fits, w) =
      let whole : HasWalkFromAny g ss a.head ((d - a.len) + a.len) = any_more g ss a.tail a.head (d - a.len) a.len w c in
      let sum : (d - a.len) + a.len ≡ d = omega arith in
      subst (λ x. HasWalkFromAny g ss v x) sum (subst (λ x. HasWalkFromAny g ss x ((d - a.len) + a.len)) e whole)

  abbrev IsEmpty : (v d : ℕ) → Type 0
  IsEmpty v d = Contains ss v × (d ≡ 0)

  empty_decided : (v d : ℕ) → IsEmpty v d ⊎ (IsEmpty v d → ⊥)
  empty_decided v d = go (is_source ss v) (cases_eq d 0)
    where
      go : Contains ss v ⊎ (Contains ss v → ⊥) → (d ≡ 0) ⊎ (d ≡ 0 → ⊥) → IsEmpty v d ⊎ (IsEmpty v d → ⊥)
      go (inl p) (inl q) = inl (p, q)
      go (inl p) (inr q) = inr (λ h. q h.1)
      go (inr p) _ = inr (λ h. p h.0)

  -- a walk is empty or has a last arc
  by_last : (v d : ℕ) → IsEmpty v d ⊎ (IsEmpty v d → ⊥) → ((a : Arc) × Contains g.arcs a × Ends v d a) ⊎ ((a : Arc) → Contains g.arcs a → Ends v d a → ⊥) → HasWalkFromAny g ss v d ⊎ (HasWalkFromAny g ss v d → ⊥)
  by_last v d place (inl (a, c, h)) = inl (ends_walk v d a c h)
  by_last v d (inl (here, z)) (inr none) = inl (subst (HasWalkFromAny g ss v) (sym z) (any_none g ss v here))
  by_last v d (inr full) (inr none) = inr (λ w. refuse (any_cases g ss v d w))
    where
      refuse : IsEmpty v d ⊎ ((u c l : ℕ) × HasWalkFromAny g ss u c × HasArc g u v l × (c + l ≡ d)) → ⊥
      refuse (inl h) = full h
      refuse (inr (u, c, l, w, a, q)) =
          let rest : c ≡ d - l = omega arith in
          none (record { tail = u; head = v; len = l }) a (refl, (arc_in g gr u v l a).2, omega arith, subst (λ x. HasWalkFromAny g ss u x) rest w)

  walk_decided : (bound v d : ℕ) → d < bound → HasWalkFromAny g ss v d ⊎ (HasWalkFromAny g ss v d → ⊥)
  walk_decided zero v d below = absurd (omega arith)
  walk_decided (suc bound) v d below =
      by_last v d (empty_decided v d) (any_decided (Ends v d) (ends_decided v d (λ u c h. walk_decided bound u c (omega arith))) g.arcs)

  -- the least distance below a bound, or no walk below it
  pub nearest_below : (v n : ℕ) → ((d : ℕ) × IsNearest g ss v d × (d < n)) ⊎ ((d : ℕ) → d < n → HasWalkFromAny g ss v d → ⊥)
  nearest_below v n = go (smallest (λ d. HasWalkFromAny g ss v d) (λ d. walk_decided (suc d) v d (omega arith)) n)
    where
      go : ((d : ℕ) × HasWalkFromAny g ss v d × ((e : ℕ) → HasWalkFromAny g ss v e → d ≤ e) × (d < n)) ⊎ ((d : ℕ) → d < n → HasWalkFromAny g ss v d → ⊥) → ((d : ℕ) × IsNearest g ss v d × (d < n)) ⊎ ((d : ℕ) → d < n → HasWalkFromAny g ss v d → ⊥)
      go (inl (d, walk, least, h)) = inl (d, record { walk = walk; least = least }, h)
      go (inr none) = inr none

  -- where there is a walk there is a least distance, and it is no greater
  pub nearest_exists : (v e : ℕ) → HasWalkFromAny g ss v e → (d : ℕ) × IsNearest g ss v d × (d ≤ e)
  nearest_exists v e w = pick (nearest_below v (suc e))
    where
      pick : ((d : ℕ) × IsNearest g ss v d × (d < suc e)) ⊎ ((d : ℕ) → d < suc e → HasWalkFromAny g ss v d → ⊥) → (d : ℕ) × IsNearest g ss v d × (d ≤ e)
      pick (inl (d, least, h)) = (d, least, omega arith)
      pick (inr none) = absurd (none e (omega arith) w)

pub least_exists : (g : Graph) → IsGraph g → (s v e : ℕ) → HasWalk g s v e → (d : ℕ) × IsLeast g s v d × (d ≤ e)
least_exists g gr s v e w = let r = nearest_exists g gr (s ∷ []) v e (walk_of g s v e w) in (r.0, least_to g s v r.0 r.1, r.2)

-- the least of all
pub nearest_is_least_of_all : NearestIsLeastOfAll
nearest_is_least_of_all g ss v d gr = (there, back)
  where
    there : IsNearest g ss v d → IsLeastOfAll g ss v d
    there h =
        let (s, here, w) = h.walk in
        ((s, here, record { walk = w; least = λ e w'. h.least e (s, here, w') }), λ r e there' least. h.least e (r, there', least.walk))

    back : IsLeastOfAll g ss v d → IsNearest g ss v d
    back ((s, here, least), all) = record {
      walk = (s, here, least.walk);
      least = λ e (r, there', w). (let other = least_exists g gr r v e w in let low = all r other.0 there' other.1 in omega (arith, other.2));
    }
