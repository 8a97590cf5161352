-- Walks from any of several sources, seen through their last arc.
use Rattle.std.proofs.Common.{◌≡◌, ℕ, zero, suc, ◌+◌, ◌⊎◌, inl, inr, List, [], ◌∷◌, refl, sym, subst, arith}
use Rattle.std.specs.Prelude.{All, Contains}
use Rattle.std.proofs.lemmas.Bool.{cases_eq}
use Rattle.std.proofs.lemmas.List.Elements.{All-contains}
use Rattle.sp_word.specs.Word.{Pair}
use Rattle.sp_paths.specs.Paths.{Graph, IsGraph, IsVertex, HasArc, HasWalk}
use Rattle.sp_paths.proofs.Walks.{arc_in, walk_none, walk_by, walk_from_by, walk_more, walk_by_parts, walk_cases}
use Rattle.sp_paths.specs.Forests.{HasWalkFromAny, HasWalkFromAnyBy, IsNearest, IsLawful}

-- what a list with one element more in front contains
pub contains_front : (x y : ℕ) (xs : List ℕ) → Contains (x ∷ xs) y → (x ≡ y) ⊎ Contains xs y
contains_front x y xs (zero, lt, is) = inl is
contains_front x y xs (suc k, lt, is) = inr (k, omega arith, is)

pub contains_first : (x : ℕ) (xs : List ℕ) → Contains (x ∷ xs) x
contains_first x xs = (0, omega arith, refl)

pub contains_later : (x y : ℕ) (xs : List ℕ) → Contains xs y → Contains (x ∷ xs) y
contains_later x y xs (k, lt, is) = (suc k, omega arith, is)

-- whether a vertex is a source
pub is_source : (ss : List ℕ) (v : ℕ) → Contains ss v ⊎ (Contains ss v → ⊥)
is_source [] v = inr (λ c. absurd (omega (arith, c.1)))
is_source (s ∷ ss) v = go (cases_eq s v) (is_source ss v)
  where
    go : (s ≡ v) ⊎ (s ≡ v → ⊥) → Contains ss v ⊎ (Contains ss v → ⊥) → Contains (s ∷ ss) v ⊎ (Contains (s ∷ ss) v → ⊥)
    go (inl same) _ = inl (subst (Contains (s ∷ ss)) same (contains_first s ss))
    go (inr other) (inl later) = inl (contains_later s v ss later)
    go (inr other) (inr none) = inr (λ c. neither (contains_front s v ss c))
      where
        neither : (s ≡ v) ⊎ Contains ss v → ⊥
        neither (inl same) = other same
        neither (inr later) = none later

-- two least distances are one
pub nearest_same : (g : Graph) (ss : List ℕ) (v d e : ℕ) → IsNearest g ss v d → IsNearest g ss v e → d ≡ e
nearest_same g ss v d e a b = omega (arith, a.least e b.walk, b.least d a.walk)

module _ (g : Graph) (ss : List ℕ) where
  pub any_none : (s : ℕ) → Contains ss s → HasWalkFromAny g ss s 0
  any_none s here = (s, here, walk_none g s)

  pub any_more : (u v c l : ℕ) → HasWalkFromAny g ss u c → HasArc g u v l → HasWalkFromAny g ss v (c + l)
  any_more u v c l (s, here, w) a = (s, here, walk_more g s u v c l w a)

  pub any_by : (u v c l : ℕ) → HasWalkFromAny g ss u c → HasArc g u v l → HasWalkFromAnyBy g ss v (c + l) u
  any_by u v c l (s, here, w) a = (s, here, walk_by g s u v c l w a)

  pub any_from_by : (v d p : ℕ) → HasWalkFromAnyBy g ss v d p → HasWalkFromAny g ss v d
  any_from_by v d p (s, here, w) = (s, here, walk_from_by g s v d p w)

  pub any_by_parts : (v d p : ℕ) → HasWalkFromAnyBy g ss v d p → (c l : ℕ) × HasWalkFromAny g ss p c × HasArc g p v l × (c + l ≡ d)
  any_by_parts v d p (s, here, w) = let r = walk_by_parts g s v d p w in (r.0, r.1, (s, here, r.2), r.3, r.4)

  pub any_cases : (v d : ℕ) → HasWalkFromAny g ss v d → (Contains ss v × (d ≡ 0)) ⊎ ((u c l : ℕ) × HasWalkFromAny g ss u c × HasArc g u v l × (c + l ≡ d))
  any_cases v d (s, here, w) = go (walk_cases g s v d w)
    where
      go : ((s ≡ v) × (d ≡ 0)) ⊎ ((u c l : ℕ) × HasWalk g s u c × HasArc g u v l × (c + l ≡ d)) → (Contains ss v × (d ≡ 0)) ⊎ ((u c l : ℕ) × HasWalkFromAny g ss u c × HasArc g u v l × (c + l ≡ d))
      go (inl h) = inl (subst (Contains ss) h.0 here, h.1)
      go (inr (u, c, l, w', a, q)) = inr (u, c, l, (s, here, w'), a, q)

  -- a lawful pair is of a walk
  pub lawful_walk : (v d p : ℕ) → IsLawful g ss v (Pair d p) → HasWalkFromAny g ss v d
  lawful_walk v d p (inl own) = subst (HasWalkFromAny g ss v) (sym own.1) (any_none v own.0)
  lawful_walk v d p (inr by) = any_from_by v d p by

  -- a source's least distance is 0
  pub source_nearest : (s : ℕ) → Contains ss s → IsNearest g ss s 0
  source_nearest s here = record { walk = any_none s here; least = λ e w. omega arith }

module _ (g : Graph) (gr : IsGraph g) where
  -- a walk ends at a vertex
  pub any_vertex : (ss : List ℕ) → All (IsVertex g.n) ss → (v d : ℕ) → HasWalkFromAny g ss v d → IsVertex g.n v
  any_vertex ss in' v d w = go (any_cases g ss v d w)
    where
      go : (Contains ss v × (d ≡ 0)) ⊎ ((u c l : ℕ) × HasWalkFromAny g ss u c × HasArc g u v l × (c + l ≡ d)) → IsVertex g.n v
      go (inl h) = All-contains (IsVertex g.n) ss v in' h.0
      go (inr (u, c, l, w', a, e)) = (arc_in g gr u v l a).1
