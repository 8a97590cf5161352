-- The definitions determine their answers.
use Rattle.std.proofs.Common.{◌≡◌, ℕ, zero, suc, ◌+◌, ◌<◌, ◌≤◌, ◌⊎◌, ◌↔◌, inl, inr, List, [], ◌∷◌, Option, Some, None, sym, refl, ap, ◌∙◌, arith}
use Rattle.std.proofs.lemmas.Bool.{cases_lt}
use Rattle.sp_word.specs.Word.{Word, Pair, Unreached}
use Rattle.sp_paths.specs.Paths.{Graph, IsGraph, HasArc, HasWalk, IsLeast, IsTreeWord, IsFar as IsFarFromOne, IsPair, PairAnswer, Found, TooFar, NoWalk}
use Rattle.sp_paths.specs.Forests.{IsForestWord, IsFar}
use Rattle.sp_paths.specs.Theorems.{AnswersAreOne, FarIsMeant}
use Rattle.sp_paths.specs.ForestLaws.{ForestsAreOne}
use Rattle.sp_paths.proofs.Walks.{arc_in, walk_cases, least_same}
use Rattle.sp_paths.proofs.ForestWalks.{nearest_same}
use Rattle.sp_paths.proofs.OneForest.{forest_nearest, least_to, word_of, far_of}
use Rattle.sp_paths.proofs.Least.{least_exists}

-- ## Several sources

-- a vertex has one word in the forest
forest_word_only : (g : Graph) (ss : List ℕ) (v : ℕ) (w w' : Word) → IsForestWord g ss v w → IsForestWord g ss v w' → w ≡ w'
forest_word_only g ss v Unreached Unreached a b = refl
forest_word_only g ss v Unreached (Pair d p) a b = absurd (a d (forest_nearest g ss v d p b).walk)
forest_word_only g ss v (Pair d p) Unreached a b = absurd (b d (forest_nearest g ss v d p a).walk)
forest_word_only g ss v (Pair d p) (Pair e q) (inl a) (inl b) = cc
forest_word_only g ss v (Pair d p) (Pair e q) (inl a) (inr b) = absurd (b.0 a.0)
forest_word_only g ss v (Pair d p) (Pair e q) (inr a) (inl b) = absurd (a.0 b.0)
forest_word_only g ss v (Pair d p) (Pair e q) (inr a) (inr b) =
    let dist : d ≡ e = nearest_same g ss v d e a.1.least b.1.least in
    let one : p ≤ q = a.1.smallest q (b.1.before.0, b.1.before.1, b.1.before.2, b.1.before.3, b.1.before.4 ∙ sym dist) in
    let two : q ≤ p = b.1.smallest p (a.1.before.0, a.1.before.1, a.1.before.2, a.1.before.3, a.1.before.4 ∙ dist) in
    let pred : p ≡ q = omega arith in
    cc

-- one vertex is too far, or none
beyond_only : (g : Graph) (ss : List ℕ) (max : ℕ) (a b : Option ℕ) → IsFar g ss max a → IsFar g ss max b → a ≡ b
beyond_only g ss max None None fa fb = refl
beyond_only g ss max None (Some v) fa fb = absurd (fa v fb.0)
beyond_only g ss max (Some v) None fa fb = absurd (fb v fa.0)
beyond_only g ss max (Some v) (Some w) fa fb =
    let one = fa.1 w fb.0 in
    let two = fb.1 v fa.0 in
    let same : v ≡ w = omega arith in
    ap Some same

pub forests_are_one : ForestsAreOne
forests_are_one = record {
  forest = λ g ss a b fa fb v h. forest_word_only g ss v (a v) (b v) (fa v h) (fb v h);
  far = beyond_only;
}

-- ## One source

-- the least length of a reached vertex in the tree is its distance
pub tree_pair_least : (g : Graph) (s v d p : ℕ) → IsTreeWord g s v (Pair d p) → IsLeast g s v d
tree_pair_least g s v d p h = least_to g s v d (forest_nearest g (s ∷ []) v d p (word_of g s v (Pair d p) h))

tree_word_only : (g : Graph) (s v : ℕ) (w w' : Word) → IsTreeWord g s v w → IsTreeWord g s v w' → w ≡ w'
tree_word_only g s v w w' a b = forest_word_only g (s ∷ []) v w w' (word_of g s v w a) (word_of g s v w' b)

far_only : (g : Graph) (s max : ℕ) (a b : Option ℕ) → IsFarFromOne g s max a → IsFarFromOne g s max b → a ≡ b
far_only g s max a b fa fb = beyond_only g (s ∷ []) max a b (far_of g s max a fa) (far_of g s max b fb)

-- a target has one answer
pair_only : (g : Graph) (s t max : ℕ) (a b : PairAnswer) → IsPair g s t max a → IsPair g s t max b → a ≡ b
pair_only g s t max (Found d p) (Found e q) a b = let same = tree_word_only g s t (Pair d p) (Pair e q) a.1 b.1 in cc
pair_only g s t max (Found d p) (TooFar v) a b = absurd (b.0 a.0)
pair_only g s t max (Found d p) NoWalk a b = absurd (b.0 a.0)
pair_only g s t max (TooFar v) (Found d p) a b = absurd (a.0 b.0)
pair_only g s t max (TooFar v) (TooFar w) a b = let same = far_only g s max (Some v) (Some w) a.1 b.1 in cc
pair_only g s t max (TooFar v) NoWalk a b = absurd (b.1 v a.1.0)
pair_only g s t max NoWalk (Found d p) a b = absurd (a.0 b.0)
pair_only g s t max NoWalk (TooFar v) a b = absurd (a.1 v b.1.0)
pair_only g s t max NoWalk NoWalk a b = refl

module _ (g : Graph) (gr : IsGraph g) (s max : ℕ) where
  -- where no vertex is too far, every least length is within max
  least_within : IsFarFromOne g s max None → (bound v d : ℕ) → d < bound → IsLeast g s v d → d ≤ max
  least_within none zero v d h least = absurd (omega arith)
  least_within none (suc bound) v d h least = go (cases_lt max d) (walk_cases g s v d least.walk) (λ u c lt m. least_within none bound u c (omega arith) m)
    where
      beyond : (max < d) → (u c l : ℕ) → HasWalk g s u c → HasArc g u v l → c + l ≡ d → ((u c : ℕ) → c < d → IsLeast g s u c → c ≤ max) → ⊥
      beyond above u c l w a q shorter =
          let at = least_exists g gr s u c w in
          let within = shorter u at.0 (omega (arith, at.2, (arc_in g gr u v l a).2)) at.1 in
          none v (record { dist = d; least = least; above = above; tail = u; tail_dist = at.0; tail_least = at.1; tail_within = within; len = l; arc = a })

      go : (max < d) ⊎ (d ≤ max) → ((s ≡ v) × (d ≡ 0)) ⊎ ((u c l : ℕ) × HasWalk g s u c × HasArc g u v l × (c + l ≡ d)) → ((u c : ℕ) → c < d → IsLeast g s u c → c ≤ max) → d ≤ max
      go (inr fits) cases shorter = fits
      go (inl above) (inl e) shorter = absurd (omega arith)
      go (inl above) (inr (u, c, l, w, a, q)) shorter = absurd (beyond above u c l w a q shorter)

  none_far_iff : IsFarFromOne g s max None ↔ ((v d : ℕ) → IsLeast g s v d → d ≤ max)
  none_far_iff = (λ none v d least. least_within none (suc d) v d (omega arith) least, λ all v b. absurd (omega (arith, b.above, all v b.dist b.least)))

  -- an answer of no walk is the truth
  no_walk : (t : ℕ) → IsPair g s t max NoWalk → (d : ℕ) → HasWalk g s t d → ⊥
  no_walk t h d w = let least = least_exists g gr s t d w in h.0 (least.0, least.1, none_far_iff.0 h.1 t least.0 least.1)

pub answers_are_one : AnswersAreOne
answers_are_one = record { least = least_same; tree = λ g s a b ta tb v h. tree_word_only g s v (a v) (b v) (ta v h) (tb v h); far = far_only; pair = pair_only }

pub far_is_meant : FarIsMeant
far_is_meant g s max graph = record { none = none_far_iff g graph s max; no_walk = no_walk g graph s max }
