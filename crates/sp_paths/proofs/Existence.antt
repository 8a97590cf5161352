-- Every list of sources has an answer: each vertex near them has a word of the forest, which is found by going through the arcs, and
-- the table of these words is that of a run that has ended.
use Rattle.std.proofs.Common.{◌≡◌, ℕ, suc, ◌+◌, ◌-◌, ◌<◌, ◌≤◌, ◌⊎◌, inl, inr, List, [], ◌∷◌, Some, None, refl, subst, arith}
use Rattle.std.specs.Prelude.{All, Contains}
use Rattle.std.proofs.lemmas.Bool.{cases_lt, cases_eq}
use Rattle.std.proofs.lemmas.List.Elements.{All-nil, All-cons}
use Rattle.sp_word.specs.History.{Table}
use Rattle.sp_word.specs.Word.{Word, Pair, Unreached}
use Rattle.sp_paths.specs.declared.arc.Arc.{Arc}
use Rattle.sp_paths.specs.Paths.{Graph, IsGraph, IsVertex, HasArc, IsNear, IsFar as IsFarFromOne, IsPair, PairAnswer, Found, TooFar, NoWalk, IsAtMost, IsLeftOut}
use Rattle.sp_paths.proofs.Walks.{arc_in}
use Rattle.sp_paths.specs.Forests.{HasWalkFromAny, HasWalkFromAnyBy, IsNearest, IsPredecessor, IsForestPair, IsForestWord, IsLawful, IsFar, IsFinished}
use Rattle.sp_paths.specs.Theorems.{HasTree, TreesExist, PairsExist}
use Rattle.sp_paths.specs.ForestLaws.{HasForest, ForestsExist}
use Rattle.sp_paths.proofs.ForestWalks.{is_source, any_none, any_more, any_by, any_cases, nearest_same}
use Rattle.sp_paths.proofs.OneForest.{forest_nearest, least_to, least_of, word_to, far_to}
use Rattle.sp_paths.proofs.Least.{smallest, any_decided, nearest_below, nearest_exists}
use Rattle.sp_paths.proofs.Core.{cases_word, pair_dist}
use Rattle.sp_paths.proofs.Finished.{finished_is_forest, finished_is_far}

-- whether a vertex is left out
module _ (g : Graph) (words : Table) where
  abbrev LeavesOut : (v : ℕ) → Arc → Type 0
  LeavesOut v a = (a.head ≡ v) × ((d p : ℕ) × (words a.tail ≡ Pair d p)) × (words v ≡ Unreached)

  not_unreached : (w : Word) → (d p : ℕ) × (w ≡ Pair d p) → w ≡ Unreached → ⊥
  not_unreached w (d, p, e) f = cc

  leaves_decided : (v : ℕ) (a : Arc) → LeavesOut v a ⊎ (LeavesOut v a → ⊥)
  leaves_decided v a = go (cases_eq a.head v) (cases_word (words a.tail)) (cases_word (words v))
    where
      go : (a.head ≡ v) ⊎ (a.head ≡ v → ⊥) → ((d p : ℕ) × (words a.tail ≡ Pair d p)) ⊎ (words a.tail ≡ Unreached) → ((d p : ℕ) × (words v ≡ Pair d p)) ⊎ (words v ≡ Unreached) → LeavesOut v a ⊎ (LeavesOut v a → ⊥)
      go (inl e) (inl from) (inr none) = inl (e, from, none)
      go (inr other) _ _ = inr (λ h. other h.0)
      go (inl e) (inr none) _ = inr (λ h. not_unreached (words a.tail) h.1 none)
      go (inl e) (inl from) (inl here) = inr (λ h. not_unreached (words v) here h.2)

  left_decided : (v : ℕ) → IsLeftOut g words v ⊎ (IsLeftOut g words v → ⊥)
  left_decided v = go (any_decided (LeavesOut v) (leaves_decided v) g.arcs)
    where
      go : ((a : Arc) × Contains g.arcs a × LeavesOut v a) ⊎ ((a : Arc) → Contains g.arcs a → LeavesOut v a → ⊥) → IsLeftOut g words v ⊎ (IsLeftOut g words v → ⊥)
      go (inl (a, c, (e, from, none))) = inl (a.tail, a.len, from.0, from.1, subst (λ x. HasArc g a.tail x a.len) e c, from.2, none)
      go (inr none) = inr (λ h. none (record { tail = h.0; head = v; len = h.1 }) h.4 (refl, (h.2, h.3, h.5), h.6))

module _ (g : Graph) (gr : IsGraph g) (ss : List ℕ) where
  -- whether a distance is the least
  nearest_decided : (u c : ℕ) → IsNearest g ss u c ⊎ (IsNearest g ss u c → ⊥)
  nearest_decided u c = go (nearest_below g gr ss u (suc c))
    where
      at : (d : ℕ) → IsNearest g ss u d → (d ≡ c) ⊎ (d ≡ c → ⊥) → IsNearest g ss u c ⊎ (IsNearest g ss u c → ⊥)
      at d least (inl same) = inl (subst (λ x. IsNearest g ss u x) same least)
      at d least (inr other) = inr (λ h. other (nearest_same g ss u d c least h))

      go : ((d : ℕ) × IsNearest g ss u d × (d < suc c)) ⊎ ((d : ℕ) → d < suc c → HasWalkFromAny g ss u d → ⊥) → IsNearest g ss u c ⊎ (IsNearest g ss u c → ⊥)
      go (inl (d, least, h)) = at d least (cases_eq d c)
      go (inr none) = inr (λ h. none c (omega arith) h.walk)

  -- whether u is before v on a walk of least length d
  module _ (v d u : ℕ) where
    abbrev LeadsOn : Arc → Type 0
    LeadsOn a = (a.tail ≡ u) × (a.head ≡ v) × (a.len ≤ d) × IsNearest g ss u (d - a.len)

    leads_decided : (a : Arc) → LeadsOn a ⊎ (LeadsOn a → ⊥)
    leads_decided a = go (cases_eq a.tail u) (cases_eq a.head v) (cases_lt d a.len) (nearest_decided u (d - a.len))
      where
        go : (a.tail ≡ u) ⊎ (a.tail ≡ u → ⊥) → (a.head ≡ v) ⊎ (a.head ≡ v → ⊥) → (d < a.len) ⊎ (a.len ≤ d) → IsNearest g ss u (d - a.len) ⊎ (IsNearest g ss u (d - a.len) → ⊥) → LeadsOn a ⊎ (LeadsOn a → ⊥)
        go (inl t) (inl h) (inr fits) (inl least) = inl (t, h, fits, least)
        go (inr other) _ _ _ = inr (λ k. other k.0)
        go (inl t) (inr other) _ _ = inr (λ k. other k.1)
        go (inl t) (inl h) (inl over) _ = inr (λ k. absurd (omega (arith, k.2)))
        go (inl t) (inl h) (inr fits) (inr none) = inr (λ k. none k.3)

    predecessor_decided : IsPredecessor g ss v d u ⊎ (IsPredecessor g ss v d u → ⊥)
    predecessor_decided = go (any_decided LeadsOn leads_decided g.arcs)
      where
        go : ((a : Arc) × Contains g.arcs a × LeadsOn a) ⊎ ((a : Arc) → Contains g.arcs a → LeadsOn a → ⊥) → IsPredecessor g ss v d u ⊎ (IsPredecessor g ss v d u → ⊥)
        go (inl (a, c, (t, h, fits, least))) = inl (d - a.len, a.len, least, subst (λ x. HasArc g x v a.len) t (subst (λ x. HasArc g a.tail x a.len) h c), omega arith)
        go (inr none) = inr refuse
          where
            refuse : IsPredecessor g ss v d u → ⊥
            refuse (c, l, least, a, q) =
                let rest : c ≡ d - l = omega arith in
                none (record { tail = u; head = v; len = l }) a (refl, refl, omega arith, subst (λ x. IsNearest g ss u x) rest least)

  -- the last arc of a walk of least length
  last_before : (v d : ℕ) → (Contains ss v → ⊥) → IsNearest g ss v d → (u : ℕ) × IsPredecessor g ss v d u
  last_before v d other least = go (any_cases g ss v d least.walk)
    where
      go : (Contains ss v × (d ≡ 0)) ⊎ ((u c l : ℕ) × HasWalkFromAny g ss u c × HasArc g u v l × (c + l ≡ d)) → (u : ℕ) × IsPredecessor g ss v d u
      go (inl h) = absurd (other h.0)
      go (inr (u, c, l, w, a, q)) =
          let r = nearest_exists g gr ss u c w in
          let whole = least.least (r.0 + l) (any_more g ss u v r.0 l r.1.walk a) in
          (u, (r.0, l, r.1, a, omega (arith, r.2)))

  -- the pair of the forest of a vertex with a least distance
  pub forest_pair : (v d : ℕ) → (Contains ss v → ⊥) → IsNearest g ss v d → (p : ℕ) × IsForestPair g ss v d p
  forest_pair v d other least = go (last_before v d other least)
    where
      pick : (u : ℕ) → IsPredecessor g ss v d u → ((p : ℕ) × IsPredecessor g ss v d p × ((j : ℕ) → IsPredecessor g ss v d j → p ≤ j) × (p < suc u)) ⊎ ((j : ℕ) → j < suc u → IsPredecessor g ss v d j → ⊥) → (p : ℕ) × IsForestPair g ss v d p
      pick u before (inl (p, is, first, h)) = (p, record { least = least; before = is; smallest = first })
      pick u before (inr none) = absurd (none u (omega arith) before)

      go : (u : ℕ) × IsPredecessor g ss v d u → (p : ℕ) × IsForestPair g ss v d p
      go (u, before) = pick u before (smallest (λ j. IsPredecessor g ss v d j) (λ j. predecessor_decided v d j) (suc u))

  module _ (in' : All (IsVertex g.n) ss) (max : ℕ) where
    -- the word of the forest of a vertex near the sources; no walk within max leads to any other
    abbrev IsNearWord : (v : ℕ) → Word → Type 0
    IsNearWord v Unreached = (d : ℕ) → d ≤ max → HasWalkFromAny g ss v d → ⊥
    IsNearWord v (Pair d p) = (d ≤ max) × IsForestWord g ss v (Pair d p)

    near_word : (v : ℕ) → (w : Word) × IsNearWord v w
    near_word v = go (is_source ss v) (nearest_below g gr ss v (suc max))
      where
        go : Contains ss v ⊎ (Contains ss v → ⊥) → ((d : ℕ) × IsNearest g ss v d × (d < suc max)) ⊎ ((d : ℕ) → d < suc max → HasWalkFromAny g ss v d → ⊥) → (w : Word) × IsNearWord v w
        go (inl here) _ = (Pair 0 0, (omega arith, inl (here, refl, refl)))
        go (inr other) (inl (d, least, h)) = let t = forest_pair v d other least in (Pair d t.0, (omega arith, inr (other, t.1)))
        go (inr other) (inr none) = (Unreached, λ d h w. none d (omega arith) w)

    near_words : Table
    near_words v = (near_word v).0

    near : (v : ℕ) → IsNearWord v (near_words v)
    unfolding near_words
    near v = (near_word v).1

    lawful : (v : ℕ) (w : Word) → IsNearWord v w → IsLawful g ss v w
    lawful v Unreached h = tt
    lawful v (Pair d p) (fits, inl own) = inl own
    lawful v (Pair d p) (fits, inr (other, t)) =
        let (c, l, least, a, q) = t.before in
        inr (subst (λ x. HasWalkFromAnyBy g ss v x p) q (any_by g ss p v c l least.walk a))

    own : (s : ℕ) → Contains ss s → (w : Word) → IsNearWord s w → w ≡ Pair 0 0
    own s here Unreached h = absurd (h 0 (omega arith) (any_none g ss s here))
    own s here (Pair d p) (fits, inl own') = cc
    own s here (Pair d p) (fits, inr (other, t)) = absurd (other here)

    within : (v : ℕ) (w : Word) → IsNearWord v w → (d p : ℕ) → w ≡ Pair d p → d ≤ max
    within v Unreached h d p e = absurd (cc)
    within v (Pair c q) h d p e = omega (arith, h.0, pair_dist c q d p e)

    relaxed : (u v l d : ℕ) → HasArc g u v l → IsNearest g ss u d → d + l ≤ max → (w : Word) → IsNearWord v w → IsAtMost w (d + l) u
    relaxed u v l d a least fits Unreached h = h (d + l) fits (any_more g ss u v d l least.walk a)
    relaxed u v l d a least fits (Pair e q) (small, inl own') = inl (omega (arith, own'.1, (arc_in g gr u v l a).2))
    relaxed u v l d a least fits (Pair e q) (small, inr (other, t)) = go (cases_lt e (d + l))
      where
        no_longer : e ≤ d + l
        no_longer = t.least.least (d + l) (any_more g ss u v d l least.walk a)

        go : (e < d + l) ⊎ (d + l ≤ e) → (e < d + l) ⊎ ((e ≡ d + l) × (q ≤ u))
        go (inl less) = inl less
        go (inr same) = let le = no_longer in inr (omega arith, t.smallest u (d, l, least, a, omega arith))

    near_nearest : (u d p : ℕ) → near_words u ≡ Pair d p → IsNearest g ss u d
    near_nearest u d p is = let word : IsNearWord u (Pair d p) = rw is at (near u) in forest_nearest g ss u d p word.1

    -- the table of these words is that of a run that has ended
    near_finished : IsFinished g ss max near_words
    near_finished = record {
      all = record {
        graph = gr;
        vertices = in';
        table = record { lawful = λ v h. lawful v (near_words v) (near v); own = λ s here. own s here (near_words s) (near s) };
        closed = λ u v l a d p e fits. relaxed u v l d a (near_nearest u d p e) fits (near_words v) (near v);
      };
      within = λ v d p h e. within v (near_words v) (near v) d p e;
    }

    abbrev HasSmallest : Type 0
    HasSmallest = (v : ℕ) × IsLeftOut g near_words v × ((w : ℕ) → IsLeftOut g near_words w → v ≤ w)

    left_out : HasSmallest ⊎ ((v : ℕ) → IsLeftOut g near_words v → ⊥)
    left_out = go (smallest (λ v. IsLeftOut g near_words v) (left_decided g near_words) (suc g.n))
      where
        go : ((v : ℕ) × IsLeftOut g near_words v × ((w : ℕ) → IsLeftOut g near_words w → v ≤ w) × (v < suc g.n)) ⊎ ((v : ℕ) → v < suc g.n → IsLeftOut g near_words v → ⊥) → HasSmallest ⊎ ((v : ℕ) → IsLeftOut g near_words v → ⊥)
        go (inl (v, out, least, h)) = inl (v, out, least)
        go (inr none) = inr (λ v out. none v (let ends = arc_in g gr out.0 v out.1 out.4 in omega (arith, ends.1)) out)

    forest_or_far : HasSmallest ⊎ ((v : ℕ) → IsLeftOut g near_words v → ⊥) → HasForest g ss max ⊎ ((v : ℕ) × IsFar g ss max (Some v))
    forest_or_far (inl (v, out, least)) = inr (v, finished_is_far g ss max near_words near_finished v out least)
    forest_or_far (inr none) = let both = finished_is_forest g ss max near_words near_finished none in inl (near_words, both.0, both.1)

pub forests_exist : ForestsExist
forests_exist g ss max gr in' = forest_or_far g gr ss in' max (left_out g gr ss in' max)

-- ## One source

one : (g : Graph) (s : ℕ) → IsVertex g.n s → All (IsVertex g.n) (s ∷ [])
one g s in' = All-cons (IsVertex g.n) s [] in' (All-nil (IsVertex g.n))

pub trees_exist : TreesExist
trees_exist g s max gr in' = go (forests_exist g (s ∷ []) max gr (one g s in'))
  where
    go : HasForest g (s ∷ []) max ⊎ ((v : ℕ) × IsFar g (s ∷ []) max (Some v)) → HasTree g s max ⊎ ((v : ℕ) × IsFarFromOne g s max (Some v))
    go (inl (words, forest, none)) = inl (words, (λ v at. word_to g s v (words v) (forest v at)), far_to g s max None none)
    go (inr (v, far)) = inr (v, far_to g s max (Some v) far)

pub pairs_exist : PairsExist
pairs_exist g s t max gr in' at = go (near_word g gr (s ∷ []) (one g s in') max t) (trees_exist g s max gr in')
  where
    not_near : IsNearWord g gr (s ∷ []) (one g s in') max t Unreached → IsNear g s max t → ⊥
    not_near none (d, least, low) = none d low (least_of g s t d least).walk

    go : ((w : Word) × IsNearWord g gr (s ∷ []) (one g s in') max t w) → HasTree g s max ⊎ ((v : ℕ) × IsFarFromOne g s max (Some v)) → (answer : PairAnswer) × IsPair g s t max answer
    go (Pair d p, (low, word)) _ = (Found d p, ((d, least_to g s t d (forest_nearest g (s ∷ []) t d p word), low), word_to g s t (Pair d p) word))
    go (Unreached, none) (inl (words, tree, far)) = (NoWalk, (not_near none, far))
    go (Unreached, none) (inr (v, far)) = (TooFar v, (not_near none, far))
