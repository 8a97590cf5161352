-- What a finished table says, and what it leaves out.
use Rattle.std.proofs.Common.{◌≡◌, ℕ, zero, suc, ◌+◌, ◌<◌, ◌≤◌, ◌⊎◌, inl, inr, List, arith}
use Rattle.std.specs.Prelude.{Contains}
use Rattle.std.proofs.lemmas.Bool.{cases_lt}
use Rattle.sp_word.specs.History.{Table}
use Rattle.sp_word.specs.Word.{Pair, Unreached}
use Rattle.sp_paths.specs.Paths.{Graph, IsVertex, HasArc, IsLeftOut}
use Rattle.sp_paths.proofs.Walks.{arc_in}
use Rattle.sp_paths.specs.Forests.{HasWalkFromAny, IsNearest, IsForestWord, IsNear, IsBeyond, IsFinished}
use Rattle.sp_paths.specs.ForestLaws.{FinishedIsForest, FinishedIsFar}
use Rattle.sp_paths.proofs.ForestWalks.{any_more, any_cases, nearest_same}
use Rattle.sp_paths.proofs.Least.{nearest_exists}
use Rattle.sp_paths.proofs.Core.{cases_word, not_both, reached, pair_walk, pair_nearest, pair_forest}

module _ (g : Graph) (ss : List ℕ) (max : ℕ) (words : Table) (f : IsFinished g ss max words) where
  near_reached : (v : ℕ) → IsNear g ss max v → (d p : ℕ) × (words v ≡ Pair d p) × (d ≤ max)
  near_reached v (d, least, h) = let r = reached g ss max words f.all v d least.walk h in (r.0, r.1, r.2, omega (arith, r.3))

  reached_near : (v d p : ℕ) → IsVertex g.n v → words v ≡ Pair d p → IsNear g ss max v
  reached_near v d p h e = (d, pair_nearest g ss max words f.all v d p h e (f.within v d p h e), f.within v d p h e)

  -- a vertex that is left out is beyond max
  left_out_beyond : (v : ℕ) → IsLeftOut g words v → IsBeyond g ss max v
  left_out_beyond v (u, l, d, p, a, eu, ev) = record { dist = least.0; least = least.1; above = above (cases_lt max least.0); tail = u; tail_dist = d; tail_least = pair_nearest g ss max words f.all u d p ends.0 eu small; tail_within = small; len = l; arc = a }
    where
      ends : IsVertex g.n u × IsVertex g.n v × (1 ≤ l)
      ends = arc_in g f.all.graph u v l a

      small : d ≤ max
      small = f.within u d p ends.0 eu

      least : (c : ℕ) × IsNearest g ss v c × (c ≤ d + l)
      least = nearest_exists g f.all.graph ss v (d + l) (any_more g ss u v d l (pair_walk g ss max words f.all u d p ends.0 eu) a)

      above : (max < least.0) ⊎ (least.0 ≤ max) → max < least.0
      above (inl h) = h
      above (inr h) = let r = near_reached v (least.0, least.1, h) in absurd (not_both (words v) r.0 r.1 r.2 ev)

  -- a vertex beyond max is left out
  beyond_left_out : (v : ℕ) → IsBeyond g ss max v → IsLeftOut g words v
  beyond_left_out v b = (b.tail, b.len, from.0, from.1, b.arc, from.2, here (cases_word (words v)))
    where
      from : (d p : ℕ) × (words b.tail ≡ Pair d p) × (d ≤ max)
      from = near_reached b.tail (b.tail_dist, b.tail_least, b.tail_within)

      here : ((d p : ℕ) × (words v ≡ Pair d p)) ⊎ (words v ≡ Unreached) → words v ≡ Unreached
      here (inr e) = e
      here (inl (d, p, e)) =
          let near = reached_near v d p (arc_in g f.all.graph b.tail v b.len b.arc).1 e in
          let same = nearest_same g ss v near.0 b.dist near.1 b.least in
          absurd (omega (arith, near.2, b.above))

  -- where nothing is left out, every walk leads to a reached vertex
  walked_below : ((v : ℕ) → IsLeftOut g words v → ⊥) → (bound v d : ℕ) → d < bound → HasWalkFromAny g ss v d → words v ≡ Unreached → ⊥
  walked_below none zero v d h w e = absurd (omega arith)
  walked_below none (suc bound) v d h w e = go (any_cases g ss v d w) (λ u c lt w'. walked_below none bound u c (omega arith) w')
    where
      at : (u l : ℕ) → HasArc g u v l → (words u ≡ Unreached → ⊥) → ((c q : ℕ) × (words u ≡ Pair c q)) ⊎ (words u ≡ Unreached) → ⊥
      at u l a ok (inl (c, q, eu)) = none v (u, l, c, q, a, eu, e)
      at u l a ok (inr eu) = ok eu

      go : (Contains ss v × (d ≡ 0)) ⊎ ((u c l : ℕ) × HasWalkFromAny g ss u c × HasArc g u v l × (c + l ≡ d)) → ((u c : ℕ) → c < d → HasWalkFromAny g ss u c → words u ≡ Unreached → ⊥) → ⊥
      go (inl own) shorter = not_both (words v) 0 0 (f.all.table.own v own.0) e
      go (inr (u, c, l, w', a, q)) shorter =
          let long : 1 ≤ l = (arc_in g f.all.graph u v l a).2 in at u l a (shorter u c (omega arith) w') (cases_word (words u))

  -- then each word is the forest's, and no vertex is too far
  all_forest : ((v : ℕ) → IsLeftOut g words v → ⊥) → (v : ℕ) → IsVertex g.n v → IsForestWord g ss v (words v)
  all_forest none v h = go (cases_word (words v))
    where
      go : ((d p : ℕ) × (words v ≡ Pair d p)) ⊎ (words v ≡ Unreached) → IsForestWord g ss v (words v)
      go (inl (d, p, e)) = rw e (pair_forest g ss max words f.all v d p h e (f.within v d p h e))
      go (inr e) = let none' : IsForestWord g ss v Unreached = λ d w. walked_below none (suc d) v d (omega arith) w e in rw e none'

pub finished_is_forest : FinishedIsForest
finished_is_forest g ss max words f none = (all_forest g ss max words f none, λ v b. none v (beyond_left_out g ss max words f v b))

pub finished_is_far : FinishedIsFar
finished_is_far g ss max words f v out least = (left_out_beyond g ss max words f v out, λ w b. least w (beyond_left_out g ss max words f w b))
