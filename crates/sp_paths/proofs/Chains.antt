-- Where chains of predecessors begin.
use Rattle.std.proofs.Common.{◌≡◌, ℕ, zero, suc, ◌+◌, ◌<◌, ◌≤◌, ◌⊎◌, inl, inr, List, sym, refl, ◌∙◌, subst, arith}
use Rattle.std.specs.Prelude.{Contains}
use Rattle.sp_word.specs.History.{Table}
use Rattle.sp_word.specs.Word.{Pair, Unreached}
use Rattle.sp_paths.specs.Paths.{Graph, IsGraph, IsVertex, HasArc, HasWalk, IsLeast}
use Rattle.sp_paths.proofs.Walks.{arc_in, walk_none, walk_more}
use Rattle.sp_paths.proofs.Core.{cases_word, not_both, pair_dist, pair_pred}
use Rattle.sp_paths.specs.Forests.{HasWalkFromAny, IsNearest, IsForestWord, IsForestWithin}
use Rattle.sp_paths.specs.Roots.{LeadsBack, IsRoot, IsBackStep}
use Rattle.sp_paths.specs.ForestLaws.{HasRoot, ForestHasRoots, PartHasRoots}
use Rattle.sp_paths.proofs.ForestWalks.{nearest_same, any_vertex}
use Rattle.sp_paths.proofs.Least.{nearest_below}
use Rattle.sp_paths.proofs.OneForest.{forest_nearest}

-- a chain has one beginning
pub root_only : (words : Table) (k j v r q : ℕ) → LeadsBack words k v r → LeadsBack words j v q → r ≡ q
root_only words zero zero v r q a b = sym a.0 ∙ b.0
root_only words zero (suc j) v r q a (d, p, e, low, b) = let same = pair_dist 0 0 d p (sym a.1 ∙ e) in absurd (omega arith)
root_only words (suc k) zero v r q (d, p, e, low, a) b = let same = pair_dist 0 0 d p (sym b.1 ∙ e) in absurd (omega arith)
root_only words (suc k) (suc j) v r q (d, p, e, low, a) (d', p', e', low', b) =
    let same : p ≡ p' = pair_pred d p d' p' (sym e ∙ e') in
    root_only words k j p' r q (subst (λ x. LeadsBack words k x r) same a) b

module _ (g : Graph) (gr : IsGraph g) (ss : List ℕ) (max : ℕ) (words : Table) (near : (v d : ℕ) → IsNearest g ss v d → d ≤ max → IsForestWord g ss v (words v)) where
  -- what is shown of a vertex with a least distance: the beginning of its chain, from which a walk of that length leads to it
  abbrev Rooted : (v d : ℕ) → Type 0
  Rooted v d = (r : ℕ) × IsRoot words v r × Contains ss r × HasWalk g r v d

  step : (v d p c l r k : ℕ) → words v ≡ Pair d p → 0 < d → HasArc g p v l → c + l ≡ d → LeadsBack words k p r → Contains ss r → HasWalk g r p c → Rooted v d
  step v d p c l r k e low a sum back here w = (r, (suc k, (d, p, e, low, back)), here, subst (λ x. HasWalk g r v x) sum (walk_more g r p v c l w a))

  -- the chain of a vertex, where those of nearer ones are known
  rooted_by : (v d : ℕ) → d ≤ max → IsNearest g ss v d → ((p c : ℕ) → c < d → IsNearest g ss p c → Rooted p c) → (e p : ℕ) → words v ≡ Pair e p → IsForestWord g ss v (Pair e p) → Rooted v d
  rooted_by v d low least nearer e p is (inl own) =
      let zero' : words v ≡ Pair 0 0 = subst (λ x. words v ≡ Pair 0 x) own.2 (subst (λ x. words v ≡ Pair x p) own.1 is) in
      let none : d ≡ 0 = nearest_same g ss v d 0 least (subst (IsNearest g ss v) own.1 (forest_nearest g ss v e p (inl own))) in
      (v, (0, (refl, zero')), own.0, subst (λ x. HasWalk g v v x) (sym none) (walk_none g v))
  rooted_by v d low least nearer e p is (inr (other, pair)) =
      let same : e ≡ d = nearest_same g ss v e d pair.least least in
      let (c, l, before, a, sum) = pair.before in
      let long : 1 ≤ l = (arc_in g gr p v l a).2 in
      let (r, (k, back), here, w) = nearer p c (omega arith) before in
      step v d p c l r k (subst (λ x. words v ≡ Pair x p) same is) (omega arith) a (sum ∙ same) back here w

  rooted_below : (bound v d : ℕ) → d < bound → d ≤ max → IsNearest g ss v d → Rooted v d
  rooted_below zero v d below low least = absurd (omega arith)
  rooted_below (suc bound) v d below low least = go (cases_word (words v)) (near v d least low) (λ p c less. rooted_below bound p c (omega arith) (omega arith))
    where
      go : ((e p : ℕ) × (words v ≡ Pair e p)) ⊎ (words v ≡ Unreached) → IsForestWord g ss v (words v) → ((p c : ℕ) → c < d → IsNearest g ss p c → Rooted p c) → Rooted v d
      go (inl (e, p, is)) h nearer = rooted_by v d low least nearer e p is (subst (IsForestWord g ss v) is h)
      go (inr none) h nearer = let no_walk : IsForestWord g ss v Unreached = subst (IsForestWord g ss v) none h in absurd (no_walk d least.walk)

  has_root : (v d p : ℕ) → words v ≡ Pair d p → IsNearest g ss v d → d ≤ max → HasRoot g ss words v
  has_root v d p at least low =
      let (r, is, here, w) = rooted_below (suc d) v d (omega arith) low least in
      record {
        root = r;
        is = is;
        source = here;
        dist = λ e q at'. (let same = pair_dist d p e q (sym at ∙ at') in subst (IsLeast g r v) same (record { walk = w; least = λ x w'. least.least x (r, here, w') }));
        one = λ q other. root_only words other.0 is.0 v q r other.1 is.1;
      }

  -- a pair of the forest has a predecessor with a lesser distance
  back_step : (v d p : ℕ) → d ≤ max → IsForestWord g ss v (Pair d p) → IsBackStep g.n words d p
  back_step v d p low (inl own) = inl (own.1, own.2)
  back_step v d p low (inr (other, pair)) =
      let (c, l, before, a, sum) = pair.before in
      let ends = arc_in g gr p v l a in
      let long : 1 ≤ l = ends.2 in
      inr (omega arith, ends.0, reached c before (omega arith) (cases_word (words p)) (near p c before (omega arith)))
    where
      reached : (c : ℕ) → IsNearest g ss p c → c < d → ((e q : ℕ) × (words p ≡ Pair e q)) ⊎ (words p ≡ Unreached) → IsForestWord g ss p (words p) → (e q : ℕ) × (words p ≡ Pair e q) × (e < d)
      reached c before less (inl (e, q, is)) h =
          let same = nearest_same g ss p e c (forest_nearest g ss p e q (subst (IsForestWord g ss p) is h)) before in
          (e, q, is, omega arith)
      reached c before less (inr none) h = let no_walk : IsForestWord g ss p Unreached = subst (IsForestWord g ss p) none h in absurd (no_walk c before.walk)

pub forest_has_roots : ForestHasRoots
forest_has_roots g ss words gr in' f = record {
  falls = λ v d p at is. back_step g gr ss d words (λ u c least low. near u c least) v d p (omega arith) (word v d p at is);
  roots = λ v d p at is. has_root g gr ss d words (λ u c least low. near u c least) v d p is (forest_nearest g ss v d p (word v d p at is)) (omega arith);
}
  where
    near : (u c : ℕ) → IsNearest g ss u c → IsForestWord g ss u (words u)
    near u c least = f u (any_vertex g gr ss in' u c least.walk)

    word : (v d p : ℕ) → IsVertex g.n v → words v ≡ Pair d p → IsForestWord g ss v (Pair d p)
    word v d p at is = subst (IsForestWord g ss v) is (f v at)

-- what is reached in a part of the forest is near
part_near : (g : Graph) → IsGraph g → (ss : List ℕ) (max : ℕ) (words : Table) → IsForestWithin g ss max words → (v d p : ℕ) → IsVertex g.n v → words v ≡ Pair d p → IsForestWord g ss v (Pair d p) × (d ≤ max)
part_near g gr ss max words f v d p at is = go (nearest_below g gr ss v (suc max))
  where
    go : ((c : ℕ) × IsNearest g ss v c × (c < suc max)) ⊎ ((c : ℕ) → c < suc max → HasWalkFromAny g ss v c → ⊥) → IsForestWord g ss v (Pair d p) × (d ≤ max)
    go (inl (c, least, low)) =
        let word = subst (IsForestWord g ss v) is (f.near v (c, least, omega arith)) in
        let same = nearest_same g ss v d c (forest_nearest g ss v d p word) least in
        (word, omega arith)
    go (inr none) = absurd (not_both (words v) d p is (f.others v at (λ n. none n.0 (omega (arith, n.2)) n.1.walk)))

pub part_has_roots : PartHasRoots
part_has_roots g ss max words gr f = record {
  falls = λ v d p at is. (let r = part_near g gr ss max words f v d p at is in back_step g gr ss max words (λ u c least low. f.near u (c, least, low)) v d p r.1 r.0);
  roots = λ v d p at is. (let r = part_near g gr ss max words f v d p at is in has_root g gr ss max words (λ u c least low. f.near u (c, least, low)) v d p is (forest_nearest g ss v d p r.0) r.1);
}
