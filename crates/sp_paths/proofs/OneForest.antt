-- The forest of one source is its tree.
use Rattle.std.proofs.Common.{◌≡◌, ℕ, ◌⊎◌, inl, inr, List, [], ◌∷◌, Option, Some, None, sym, subst, arith}
use Rattle.std.specs.Prelude.{Contains}
use Rattle.sp_word.specs.History.{Table}
use Rattle.sp_word.specs.Word.{Word, Pair, Unreached}
use Rattle.sp_paths.specs.Paths.{Graph, HasWalk, IsLeast, IsTreePair, IsTreeWord, EndsInTree, IsNear as IsNearOne, IsPredecessor as IsPredecessorFromOne, IsBeyond as IsBeyondOne, IsFar as IsFarFromOne}
use Rattle.sp_paths.specs.Forests.{HasWalkFromAny, IsNearest, IsPredecessor, IsForestPair, IsForestWord, IsNear, IsForestWithin, IsBeyond, IsFar}
use Rattle.sp_paths.specs.ForestLaws.{OneSource, ForestOfOneIsTree}
use Rattle.sp_paths.proofs.ForestWalks.{contains_front, contains_first, source_nearest}

-- the distance of a word is the least
pub forest_nearest : (g : Graph) (ss : List ℕ) (v d p : ℕ) → IsForestWord g ss v (Pair d p) → IsNearest g ss v d
forest_nearest g ss v d p (inl own) = subst (IsNearest g ss v) (sym own.1) (source_nearest g ss v own.0)
forest_nearest g ss v d p (inr h) = h.1.least

pub only_one : (s r : ℕ) → Contains (s ∷ []) r → r ≡ s
only_one s r here = go (contains_front s r [] here)
  where
    go : (s ≡ r) ⊎ Contains [] r → r ≡ s
    go (inl same) = sym same
    go (inr none) = absurd (omega (arith, none.1))

module _ (g : Graph) (s : ℕ) where
  pub walk_to : (v d : ℕ) → HasWalkFromAny g (s ∷ []) v d → HasWalk g s v d
  walk_to v d (r, here, w) = subst (λ x. HasWalk g x v d) (only_one s r here) w

  pub walk_of : (v d : ℕ) → HasWalk g s v d → HasWalkFromAny g (s ∷ []) v d
  walk_of v d w = (s, contains_first s [], w)

  pub least_to : (v d : ℕ) → IsNearest g (s ∷ []) v d → IsLeast g s v d
  least_to v d h = record { walk = walk_to v d h.walk; least = λ e w. h.least e (walk_of v e w) }

  pub least_of : (v d : ℕ) → IsLeast g s v d → IsNearest g (s ∷ []) v d
  least_of v d h = record { walk = walk_of v d h.walk; least = λ e w. h.least e (walk_to v e w) }

  before_to : (v d u : ℕ) → IsPredecessor g (s ∷ []) v d u → IsPredecessorFromOne g s v d u
  before_to v d u (c, l, least, a, q) = (c, l, least_to u c least, a, q)

  before_of : (v d u : ℕ) → IsPredecessorFromOne g s v d u → IsPredecessor g (s ∷ []) v d u
  before_of v d u (c, l, least, a, q) = (c, l, least_of u c least, a, q)

  pub pair_to : (v d p : ℕ) → IsForestPair g (s ∷ []) v d p → IsTreePair g s v d p
  pair_to v d p h = record { least = least_to v d h.least; before = before_to v d p h.before; smallest = λ u b. h.smallest u (before_of v d u b) }

  pub word_to : (v : ℕ) (w : Word) → IsForestWord g (s ∷ []) v w → IsTreeWord g s v w
  word_to v Unreached h = λ d w. h d (walk_of v d w)
  word_to v (Pair d p) (inl own) = inl (only_one s v own.0, own.1, own.2)
  word_to v (Pair d p) (inr h) = inr (λ same. h.0 (subst (Contains (s ∷ [])) (sym same) (contains_first s [])), pair_to v d p h.1)

  pub word_of : (v : ℕ) (w : Word) → IsTreeWord g s v w → IsForestWord g (s ∷ []) v w
  word_of v Unreached h = λ d w. h d (walk_to v d w)
  word_of v (Pair d p) (inl own) = inl (subst (Contains (s ∷ [])) (sym own.0) (contains_first s []), own.1, own.2)
  word_of v (Pair d p) (inr h) = inr (
    λ here. h.0 (only_one s v here),
    record { least = least_of v d h.1.least; before = before_of v d p h.1.before; smallest = λ u b. h.1.smallest u (before_to v d u b) },
  )

  pub near_to : (max v : ℕ) → IsNear g (s ∷ []) max v → IsNearOne g s max v
  near_to max v (d, least, low) = (d, least_to v d least, low)

  pub near_of : (max v : ℕ) → IsNearOne g s max v → IsNear g (s ∷ []) max v
  near_of max v (d, least, low) = (d, least_of v d least, low)

  within_to : (max : ℕ) (words : Table) → IsForestWithin g (s ∷ []) max words → EndsInTree g s max words
  within_to max words h = record { near = λ v n. word_to v (words v) (h.near v (near_of max v n)); others = λ v at far. h.others v at (λ n. far (near_to max v n)) }

  within_of : (max : ℕ) (words : Table) → EndsInTree g s max words → IsForestWithin g (s ∷ []) max words
  within_of max words h = record { near = λ v n. word_of v (words v) (h.near v (near_to max v n)); others = λ v at far. h.others v at (λ n. far (near_of max v n)) }

  beyond_to : (max v : ℕ) → IsBeyond g (s ∷ []) max v → IsBeyondOne g s max v
  beyond_to max v b = record { dist = b.dist; least = least_to v b.dist b.least; above = b.above; tail = b.tail; tail_dist = b.tail_dist; tail_least = least_to b.tail b.tail_dist b.tail_least; tail_within = b.tail_within; len = b.len; arc = b.arc }

  beyond_of : (max v : ℕ) → IsBeyondOne g s max v → IsBeyond g (s ∷ []) max v
  beyond_of max v b = record { dist = b.dist; least = least_of v b.dist b.least; above = b.above; tail = b.tail; tail_dist = b.tail_dist; tail_least = least_of b.tail b.tail_dist b.tail_least; tail_within = b.tail_within; len = b.len; arc = b.arc }

  pub far_to : (max : ℕ) (v : Option ℕ) → IsFar g (s ∷ []) max v → IsFarFromOne g s max v
  far_to max None h = λ v b. h v (beyond_of max v b)
  far_to max (Some v) h = (beyond_to max v h.0, λ w b. h.1 w (beyond_of max w b))

  pub far_of : (max : ℕ) (v : Option ℕ) → IsFarFromOne g s max v → IsFar g (s ∷ []) max v
  far_of max None h = λ v b. h v (beyond_to max v b)
  far_of max (Some v) h = (beyond_of max v h.0, λ w b. h.1 w (beyond_to max w b))

  one_source : OneSource g s
  one_source = record {
    nearest = λ v d. (least_to v d, least_of v d);
    word = λ v w. (word_to v w, word_of v w);
    forest = λ words. (λ f v h. word_to v (words v) (f v h), λ f v h. word_of v (words v) (f v h));
    within = λ max words. (within_to max words, within_of max words);
    far = λ max v. (far_to max v, far_of max v);
  }

pub forest_of_one_is_tree : ForestOfOneIsTree
forest_of_one_is_tree g s = one_source g s
