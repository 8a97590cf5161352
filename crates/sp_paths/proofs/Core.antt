-- The theorem on which a run, a checker and a settled bucket stand: what a table says in which every arc is relaxed up to a limit.
use Rattle.std.proofs.Common.{◌≡◌, ℕ, zero, suc, ◌+◌, ◌<◌, ◌≤◌, ◌⊎◌, inl, inr, List, sym, refl, ◌∙◌, arith}
use Rattle.std.specs.Prelude.{Contains}
use Rattle.std.proofs.lemmas.Bool.{cases_lt}
use Rattle.sp_word.specs.History.{Table}
use Rattle.sp_word.specs.Word.{Word, Pair, Unreached}
use Rattle.sp_paths.specs.Paths.{Graph, IsVertex, HasArc, IsAtMost}
use Rattle.sp_paths.specs.Forests.{HasWalkFromAny, HasWalkFromAnyBy, IsNearest, IsPredecessor, IsForestPair, IsForestWord, IsLawful, IsClosedTable}
use Rattle.sp_paths.specs.ForestLaws.{ClosedShowsWithin}
use Rattle.sp_paths.proofs.Walks.{arc_in}
use Rattle.sp_paths.proofs.ForestWalks.{is_source, any_cases, any_by_parts, any_vertex, lawful_walk, nearest_same}

-- ## Words

-- a word is unreached or a pair
pub cases_word : (w : Word) → ((d p : ℕ) × (w ≡ Pair d p)) ⊎ (w ≡ Unreached)
cases_word (Pair d p) = inl (d, p, refl)
cases_word Unreached = inr refl

-- a word is not both
pub not_both : (w : Word) (d p : ℕ) → w ≡ Pair d p → w ≡ Unreached → ⊥
not_both w d p e f = cc

-- what is at most a pair is a pair
pub at_most_pair : (w : Word) (d p : ℕ) → IsAtMost w d p → (e q : ℕ) × (w ≡ Pair e q) × (e ≤ d) × (e ≡ d → q ≤ p)
at_most_pair (Pair e q) d p (inl h) = (e, q, refl, omega arith, λ x. absurd (omega arith))
at_most_pair (Pair e q) d p (inr h) = (e, q, refl, omega arith, λ x. h.1)
at_most_pair Unreached d p h = absurd h

pub pair_dist : (d p e q : ℕ) → Pair d p ≡ Pair e q → d ≡ e
pair_dist d p e q h = cc

pub pair_pred : (d p e q : ℕ) → Pair d p ≡ Pair e q → p ≡ q
pair_pred d p e q h = cc

-- ## Tables

module _ (g : Graph) (ss : List ℕ) (limit : ℕ) (words : Table) (h : IsClosedTable g ss limit words) where
  lawful_pair : (v d p : ℕ) → IsVertex g.n v → words v ≡ Pair d p → IsLawful g ss v (Pair d p)
  lawful_pair v d p at e = rw e at (h.table.lawful v at)

  pub pair_walk : (v d p : ℕ) → IsVertex g.n v → words v ≡ Pair d p → HasWalkFromAny g ss v d
  pair_walk v d p at e = lawful_walk g ss v d p (lawful_pair v d p at e)

  vertex : (v d : ℕ) → HasWalkFromAny g ss v d → IsVertex g.n v
  vertex v d w = any_vertex g h.graph ss h.vertices v d w

  -- the last arc of a walk, where every shorter walk leads to a reached vertex
  reached_by : (v e : ℕ) → e ≤ limit → (Contains ss v × (e ≡ 0)) ⊎ ((u c l : ℕ) × HasWalkFromAny g ss u c × HasArc g u v l × (c + l ≡ e)) → ((u c : ℕ) → c < e → HasWalkFromAny g ss u c → (d p : ℕ) × (words u ≡ Pair d p) × (d ≤ c)) → (d p : ℕ) × (words v ≡ Pair d p) × (d ≤ e)
  reached_by v e within (inl own) shorter = (0, 0, h.table.own v own.0, omega arith)
  reached_by v e within (inr (u, c, l, w, a, q)) shorter =
      let long : 1 ≤ l = (arc_in g h.graph u v l a).2 in
      let before = shorter u c (omega arith) w in
      let at = at_most_pair (words v) (before.0 + l) u (h.closed u v l a before.0 before.1 before.2 (omega arith)) in
      (at.0, at.1, at.2, omega arith)

  reached_below : (bound v e : ℕ) → e < bound → e ≤ limit → HasWalkFromAny g ss v e → (d p : ℕ) × (words v ≡ Pair d p) × (d ≤ e)
  reached_below zero v e below within w = absurd (omega arith)
  reached_below (suc bound) v e below within w =
      reached_by v e within (any_cases g ss v e w) (λ u c lt w'. reached_below bound u c (omega arith) (omega arith) w')

  -- every walk within the limit leads to a reached vertex, whose distance is no longer
  pub reached : (v e : ℕ) → HasWalkFromAny g ss v e → e ≤ limit → (d p : ℕ) × (words v ≡ Pair d p) × (d ≤ e)
  reached v e w within = reached_below (suc e) v e (omega arith) within w

  -- a distance within the limit is the least
  pub pair_nearest : (v d p : ℕ) → IsVertex g.n v → words v ≡ Pair d p → d ≤ limit → IsNearest g ss v d
  pair_nearest v d p at e within = record { walk = pair_walk v d p at e; least = λ e' w. no_longer e' w (cases_lt e' d) }
    where
      no_longer : (e' : ℕ) → HasWalkFromAny g ss v e' → (e' < d) ⊎ (d ≤ e') → d ≤ e'
      no_longer e' w (inl lt) =
          let r = reached v e' w (omega arith) in
          let same = pair_dist d p r.0 r.1 (sym e ∙ r.2) in
          omega arith
      no_longer e' w (inr le) = le

  -- what an arc from a reached vertex offers to a reached vertex
  offered : (u v l c q d p : ℕ) → HasArc g u v l → words u ≡ Pair c q → words v ≡ Pair d p → c + l ≤ limit → (d ≤ c + l) × (d ≡ c + l → p ≤ u)
  offered u v l c q d p a eu ev within =
      let at = at_most_pair (words v) (c + l) u (h.closed u v l a c q eu within) in
      let dist = pair_dist at.0 at.1 d p (sym at.2 ∙ ev) in
      let pred = pair_pred at.0 at.1 d p (sym at.2 ∙ ev) in
      (omega arith, λ same. let tie = at.4 (dist ∙ same) in omega arith)

  -- the smallest vertex before a reached vertex: the tail of the walk's last arc
  pair_forest_by : (v d p : ℕ) → IsVertex g.n v → words v ≡ Pair d p → d ≤ limit → HasWalkFromAnyBy g ss v d p → IsForestPair g ss v d p
  pair_forest_by v d p at e within by = record { least = pair_nearest v d p at e within; before = before; smallest = smallest }
    where
      parts : (c l : ℕ) × HasWalkFromAny g ss p c × HasArc g p v l × (c + l ≡ d)
      parts = any_by_parts g ss v d p by

      before : IsPredecessor g ss v d p
      before =
          let r = reached p parts.0 parts.2 (omega (arith, parts.4)) in
          let up = offered p v parts.1 r.0 r.1 d p parts.3 r.2 e (omega (arith, r.3, parts.4)) in
          let least = pair_nearest p r.0 r.1 (vertex p parts.0 parts.2) r.2 (omega (arith, r.3, parts.4)) in
          (r.0, parts.1, least, parts.3, omega (arith, r.3, parts.4, up.0))

      smallest : (u : ℕ) → IsPredecessor g ss v d u → p ≤ u
      smallest u (c, l, least, a, q) =
          let r = reached u c least.walk (omega arith) in
          let mine = pair_nearest u r.0 r.1 (vertex u c least.walk) r.2 (omega arith) in
          let same = nearest_same g ss u r.0 c mine least in
          let up = offered u v l r.0 r.1 d p a r.2 e (omega arith) in
          up.1 (omega arith)

  -- the word of a reached vertex within the limit is the forest's
  pub pair_forest : (v d p : ℕ) → IsVertex g.n v → words v ≡ Pair d p → d ≤ limit → IsForestWord g ss v (Pair d p)
  pair_forest v d p at e within = by_cases (lawful_pair v d p at e) (is_source ss v)
    where
      by_cases : IsLawful g ss v (Pair d p) → Contains ss v ⊎ (Contains ss v → ⊥) → IsForestWord g ss v (Pair d p)
      by_cases (inl own) place = inl own
      by_cases (inr by) (inl here) =
          let zero' : Pair d p ≡ Pair 0 0 = sym e ∙ h.table.own v here in inl (here, pair_dist d p 0 0 zero', pair_pred d p 0 0 zero')
      by_cases (inr by) (inr other) = inr (other, pair_forest_by v d p at e within by)

  -- the core: where a walk within the limit leads to v, the word of v is the forest's
  pub forest_word : (v e : ℕ) → HasWalkFromAny g ss v e → e ≤ limit → IsForestWord g ss v (words v)
  forest_word v e w within =
      let r = reached v e w within in
      let at = pair_forest v r.0 r.1 (vertex v e w) r.2 (omega (arith, r.3)) in
      rw r.2 at

pub closed_shows_within : ClosedShowsWithin
closed_shows_within g ss limit words h = record {
  near = λ v (d, least, low). forest_word g ss limit words h v d least.walk low;
  dist = λ v d p at is low. pair_nearest g ss limit words h v d p at is low;
}
