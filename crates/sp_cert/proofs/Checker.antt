-- The checker's rules hold at every vertex exactly for the forest of the sources, or its part up to a limit, in which each
-- vertex has its root.
use Rattle.std.proofs.Common.{◌≡◌, ℕ, zero, suc, ◌+◌, ◌<◌, ◌≤◌, ◌⊎◌, ◌↔◌, inl, inr, List, Option, None, Some, sym, refl, ap, ◌∙◌, subst, arith}
use Rattle.std.specs.Prelude.{Contains, All}
use Rattle.std.proofs.lemmas.Bool.{cases_lt, cases_eq}
use Rattle.std.proofs.lemmas.List.Elements.{All-contains}
use Rattle.sp_word.specs.Word.{Word, Unreached, Pair, IsBelow}
use Rattle.sp_word.specs.History.{Table}
use Rattle.sp_paths.specs.declared.arc.Arc.{Arc}
use Rattle.sp_paths.specs.Paths.{Graph, IsGraph, IsVertex, HasArc, IsAtMost, IsClosed, IsWithin, IsLeftOut}
use Rattle.sp_paths.proofs.Walks.{arc_in}
use Rattle.sp_paths.proofs.Core.{cases_word, not_both, pair_dist, pair_pred, closed_shows_within}
use Rattle.sp_paths.proofs.Least.{any_decided, nearest_below, nearest_exists}
use Rattle.sp_paths.specs.Forests.{HasWalkFromAny, HasWalkFromAnyBy, IsNearest, IsForestWord, IsForest, IsNear, IsForestWithin, IsFar, IsLawful, IsTableFrom, IsClosedTable}
use Rattle.sp_paths.specs.Roots.{LeadsBack}
use Rattle.sp_paths.specs.ForestLaws.{HasRoots, ShowsWithin}
use Rattle.sp_answer.specs.Nearest.{IsRootAt}
use Rattle.sp_paths.proofs.ForestWalks.{is_source, any_none, any_more, any_by, nearest_same}
use Rattle.sp_paths.proofs.Finished.{finished_is_forest}
use Rattle.sp_paths.proofs.OneForest.{forest_nearest}
use Rattle.sp_paths.proofs.Chains.{root_only, forest_has_roots, part_has_roots}
use Rattle.sp_answer.proofs.RootSteps.{root_back}
use Rattle.sp_cert.specs.declared.rule.Rule.{Rule}
use Rattle.sp_cert.specs.declared.rule.Rule.TheVariants.{Size, OwnSource, NoLesserOffer, NamesPredecessor, OnlyTooFar, BeyondLimit, OtherRoot}
use Rattle.sp_cert.specs.declared.sources.SourceRule.{SourceRule}
use Rattle.sp_cert.specs.Claims.{Claim, IsSource, IsUpTo, IsAbove}
use Rattle.sp_cert.specs.Rules.{IsExplained, HasForeignRoot, HasOtherRoot, Breaks, Fails, Passes}

-- a root for each vertex
abbrev pub Roots : Type 0
Roots = Option (ℕ → Option ℕ)

abbrev pub claim : SourceRule → (limit : Option ℕ) → Table → Roots → Claim
claim sources limit words roots = record { sources = sources; limit = limit; words = words; roots = roots }

abbrev IsOwnRoot : Roots → (v : ℕ) → Type 0
IsOwnRoot None v = Unit {0}
IsOwnRoot (Some roots) v = roots v ≡ Some v

abbrev IsSameRoot : Roots → (v p : ℕ) → Type 0
IsSameRoot None v p = Unit {0}
IsSameRoot (Some roots) v p = roots v ≡ roots p

-- a rule that doesn't fail, as a fact to use
abbrev Holds : Graph → (max : ℕ) → SourceRule → (limit : Option ℕ) → Table → Roots → (v : ℕ) → Rule → Type 0
Holds g max sources limit words roots v Size = Unit {0}
Holds g max sources limit words roots v OwnSource = IsSource sources words v → (words v ≡ Pair 0 0) × IsOwnRoot roots v
Holds g max sources limit words roots v NoLesserOffer = (u l d p : ℕ) → HasArc g u v l → words u ≡ Pair d p → d + l ≤ max → IsUpTo limit (d + l) → IsAtMost (words v) (d + l) u
Holds g max sources limit words roots v NamesPredecessor = (d p : ℕ) → words v ≡ Pair d p → (IsSource sources words v → ⊥) → IsExplained g words v d p
Holds g max sources limit words roots v OnlyTooFar = limit ≡ None → words v ≡ Unreached → (u l d p : ℕ) → HasArc g u v l → words u ≡ Pair d p → d + l ≤ max
Holds g max sources limit words roots v BeyondLimit = (d p : ℕ) → words v ≡ Pair d p → IsUpTo limit d
Holds g max sources limit words roots v OtherRoot = (d p : ℕ) → words v ≡ Pair d p → (IsSource sources words v → ⊥) → IsSameRoot roots v p

abbrev AllHold : Graph → (max : ℕ) → SourceRule → (limit : Option ℕ) → Table → Roots → Type 0
AllHold g max sources limit words roots = (v : ℕ) → IsVertex g.n v → (rule : Rule) → Holds g max sources limit words roots v rule

word_decided : (w : Word) (d p : ℕ) → (w ≡ Pair d p) ⊎ (w ≡ Pair d p → ⊥)
word_decided Unreached d p = inr (λ e. cc)
word_decided (Pair e q) d p = go (cases_eq e d) (cases_eq q p)
  where
    go : (e ≡ d) ⊎ (e ≡ d → ⊥) → (q ≡ p) ⊎ (q ≡ p → ⊥) → (Pair e q ≡ Pair d p) ⊎ (Pair e q ≡ Pair d p → ⊥)
    go (inl a) (inl b) = inl (cc)
    go (inl a) (inr b) = inr (λ h. b (pair_pred e q d p h))
    go (inr a) _ = inr (λ h. a (pair_dist e q d p h))

-- a word that the pair isn't below is at most the pair
not_below : (w : Word) (d p : ℕ) → (IsBelow (Pair d p) w → ⊥) → IsAtMost w d p
not_below Unreached d p none = absurd (none tt)
not_below (Pair e q) d p none = go (cases_lt d e) (cases_lt e d) (cases_lt p q)
  where
    go : (d < e) ⊎ (e ≤ d) → (e < d) ⊎ (d ≤ e) → (p < q) ⊎ (q ≤ p) → IsAtMost (Pair e q) d p
    go (inl a) _ _ = absurd (none (inl a))
    go (inr a) (inl b) _ = inl b
    go (inr a) (inr b) (inl c) = absurd (none (inr (omega arith, c)))
    go (inr a) (inr b) (inr c) = inr (omega arith, c)

below_not : (w : Word) (d p : ℕ) → IsBelow (Pair d p) w → IsAtMost w d p → ⊥
below_not Unreached d p a b = b
below_not (Pair e q) d p (inl a) (inl b) = absurd (omega arith)
below_not (Pair e q) d p (inl a) (inr b) = absurd (omega arith)
below_not (Pair e q) d p (inr a) (inl b) = absurd (omega arith)
below_not (Pair e q) d p (inr a) (inr b) = absurd (omega arith)

root_decided : (a b : Option ℕ) → (a ≡ b) ⊎ (a ≡ b → ⊥)
root_decided None None = inl refl
root_decided None (Some r) = inr (λ e. cc)
root_decided (Some q) None = inr (λ e. cc)
root_decided (Some q) (Some r) = go (cases_eq q r)
  where
    some : Some q ≡ Some r → q ≡ r
    some e = cc

    go : (q ≡ r) ⊎ (q ≡ r → ⊥) → (Some q ≡ Some r) ⊎ (Some q ≡ Some r → ⊥)
    go (inl a) = inl (ap (λ (x : ℕ). Some x) a)
    go (inr a) = inr (λ e. a (some e))

own_root : (roots : Roots) (v : ℕ) → (HasForeignRoot roots v → ⊥) → IsOwnRoot roots v
own_root None v none = tt
own_root (Some roots) v none = go (root_decided (roots v) (Some v))
  where
    go : (roots v ≡ Some v) ⊎ (roots v ≡ Some v → ⊥) → roots v ≡ Some v
    go (inl h) = h
    go (inr h) = absurd (none h)

not_foreign : (roots : Roots) (v : ℕ) → IsOwnRoot roots v → HasForeignRoot roots v → ⊥
not_foreign None v own other = other
not_foreign (Some roots) v own other = other own

same_root : (roots : Roots) (v p : ℕ) → (HasOtherRoot roots v p → ⊥) → IsSameRoot roots v p
same_root None v p none = tt
same_root (Some roots) v p none = go (root_decided (roots v) (roots p))
  where
    go : (roots v ≡ roots p) ⊎ (roots v ≡ roots p → ⊥) → roots v ≡ roots p
    go (inl h) = h
    go (inr h) = absurd (none h)

not_other : (roots : Roots) (v p : ℕ) → IsSameRoot roots v p → HasOtherRoot roots v p → ⊥
not_other None v p same other = other
not_other (Some roots) v p same other = other same

up_to : (limit : Option ℕ) (d : ℕ) → (IsAbove limit d → ⊥) → IsUpTo limit d
up_to None d none = tt
up_to (Some limit) d none = go (cases_lt limit d)
  where
    go : (limit < d) ⊎ (d ≤ limit) → d ≤ limit
    go (inl h) = absurd (none h)
    go (inr h) = h

not_above : (limit : Option ℕ) (d : ℕ) → IsUpTo limit d → IsAbove limit d → ⊥
not_above None d low high = high
not_above (Some limit) d low high = absurd (omega arith)

-- a rule that doesn't fail holds: each can be decided
module _ (g : Graph) (max : ℕ) (sources : SourceRule) (limit : Option ℕ) (words : Table) (roots : Roots) (v : ℕ) where
  abbrev Broken : Rule → Type 0
  Broken rule = Breaks g max (claim sources limit words roots) v rule

  own_holds : (Broken OwnSource → ⊥) → Holds g max sources limit words roots v OwnSource
  own_holds none source = (go (word_decided (words v) 0 0), own_root roots v (λ other. none (source, inr other)))
    where
      go : (words v ≡ Pair 0 0) ⊎ (words v ≡ Pair 0 0 → ⊥) → words v ≡ Pair 0 0
      go (inl h) = h
      go (inr h) = absurd (none (source, inl h))

  offers_hold : (Broken NoLesserOffer → ⊥) → Holds g max sources limit words roots v NoLesserOffer
  offers_hold none u l d p a e fits low = not_below (words v) (d + l) u (λ less. none (u, l, d, p, a, e, fits, low, less))

  abbrev Explains : (p c d : ℕ) → Arc → Type 0
  Explains p c d a = (a.tail ≡ p) × (a.head ≡ v) × (c + a.len ≡ d)

  explains_decided : (p c d : ℕ) (a : Arc) → Explains p c d a ⊎ (Explains p c d a → ⊥)
  explains_decided p c d a = go (cases_eq a.tail p) (cases_eq a.head v) (cases_eq (c + a.len) d)
    where
      go : (a.tail ≡ p) ⊎ (a.tail ≡ p → ⊥) → (a.head ≡ v) ⊎ (a.head ≡ v → ⊥) → (c + a.len ≡ d) ⊎ (c + a.len ≡ d → ⊥) → Explains p c d a ⊎ (Explains p c d a → ⊥)
      go (inl x) (inl y) (inl z) = inl (x, y, z)
      go (inr x) _ _ = inr (λ h. x h.0)
      go (inl x) (inr y) _ = inr (λ h. y h.1)
      go (inl x) (inl y) (inr z) = inr (λ h. z h.2)

  names_hold : (Breaks g max (claim sources limit words roots) v NamesPredecessor → ⊥) → Holds g max sources limit words roots v NamesPredecessor
  names_hold none d p e other = by_word (cases_word (words p))
    where
      not_both : (c q : ℕ) → words p ≡ Pair c q → words p ≡ Unreached → ⊥
      not_both c q a b = cc

      found : (c q : ℕ) → words p ≡ Pair c q → ((a : Arc) × Contains g.arcs a × Explains p c d a) ⊎ ((a : Arc) → Contains g.arcs a → Explains p c d a → ⊥) → (c q l : ℕ) × (words p ≡ Pair c q) × HasArc g p v l × (c + l ≡ d)
      found c q ep (inl (a, in', x)) =
          let arc : HasArc g p v a.len = subst (λ y. HasArc g y v a.len) x.0 (subst (λ y. HasArc g a.tail y a.len) x.1 in') in
          (c, q, a.len, ep, arc, x.2)
      found c q ep (inr no_arc) =
          absurd (none (d, p, e, other, λ x. no_arc (record { tail = p; head = v; len = x.2 }) x.4 (refl, refl, omega (arith, x.5, pair_dist c q x.0 x.1 (sym ep ∙ x.3)))))

      by_word : ((c q : ℕ) × (words p ≡ Pair c q)) ⊎ (words p ≡ Unreached) → (c q l : ℕ) × (words p ≡ Pair c q) × HasArc g p v l × (c + l ≡ d)
      by_word (inl (c, q, ep)) = found c q ep (any_decided (Explains p c d) (explains_decided p c d) g.arcs)
      by_word (inr ep) = absurd (none (d, p, e, other, λ x. not_both x.0 x.1 x.3 ep))

  only_holds : (Broken OnlyTooFar → ⊥) → Holds g max sources limit words roots v OnlyTooFar
  only_holds none free ev u l d p a e = go (cases_lt max (d + l))
    where
      go : (max < d + l) ⊎ (d + l ≤ max) → d + l ≤ max
      go (inl h) = absurd (none (free, (u, l, d, p, a, e, h, ev)))
      go (inr h) = h

  limit_holds : (Broken BeyondLimit → ⊥) → Holds g max sources limit words roots v BeyondLimit
  limit_holds none d p e = up_to limit d (λ high. none (d, p, e, high))

  root_holds : (Broken OtherRoot → ⊥) → Holds g max sources limit words roots v OtherRoot
  root_holds none d p e other = same_root roots v p (λ foreign. none (d, p, e, other, foreign))

  rule_holds : (rule : Rule) → (Broken rule → ⊥) → Holds g max sources limit words roots v rule
  rule_holds Size none = tt
  rule_holds OwnSource none = own_holds none
  rule_holds NoLesserOffer none = offers_hold none
  rule_holds NamesPredecessor none = names_hold none
  rule_holds OnlyTooFar none = only_holds none
  rule_holds BeyondLimit none = limit_holds none
  rule_holds OtherRoot none = root_holds none

  rule_stays : (rule : Rule) → Holds g max sources limit words roots v rule → Broken rule → ⊥
  rule_stays Size h b = b
  rule_stays OwnSource h (source, inl other) = other (h source).0
  rule_stays OwnSource h (source, inr foreign) = not_foreign roots v (h source).1 foreign
  rule_stays NoLesserOffer h (u, l, d, p, a, e, fits, low, less) = below_not (words v) (d + l) u less (h u l d p a e fits low)
  rule_stays NamesPredecessor h (d, p, e, other, none) = none (h d p e other)
  rule_stays OnlyTooFar h (free, (u, l, d, p, a, e, over, ev)) = absurd (omega (arith, h free ev u l d p a e))
  rule_stays BeyondLimit h (d, p, e, high) = not_above limit d (h d p e) high
  rule_stays OtherRoot h (d, p, e, other, foreign) = not_other roots v p (h d p e other) foreign

-- ## What is right

-- the forest of these sources, or its part up to the limit
abbrev pub IsRight : (max : ℕ) → Graph → (ss : List ℕ) → (limit : Option ℕ) → Table → Type 0
IsRight max g ss None words = IsForest g ss words × IsFar g ss max None
IsRight max g ss (Some limit) words = IsForestWithin g ss limit words

abbrev pub AreRooted : Graph → (ss : List ℕ) → Table → Roots → Type 0
AreRooted g ss words None = Unit {0}
AreRooted g ss words (Some roots) = (v d p : ℕ) → IsVertex g.n v → words v ≡ Pair d p → (r : ℕ) × (roots v ≡ Some r) × IsRootAt g ss words v d r

-- without a limit, no distance is above max
abbrev pub IsBounded : (max : ℕ) → Graph → (limit : Option ℕ) → Table → Type 0
IsBounded max g None words = IsWithin g.n max words
IsBounded max g (Some limit) words = limit ≤ max

-- the greatest distance that is looked at
bound_of : (max : ℕ) → (limit : Option ℕ) → ℕ
bound_of max None = max
bound_of max (Some limit) = limit

up_to_bound : (max : ℕ) (limit : Option ℕ) (g : Graph) (words : Table) → IsBounded max g limit words → (x : ℕ) → x ≤ bound_of max limit → (x ≤ max) × IsUpTo limit x
unfolding bound_of
up_to_bound max None g words low x h = (h, tt)
up_to_bound max (Some limit) g words low x h = (omega arith, h)

from_zero : (limit : Option ℕ) → IsUpTo limit 0
from_zero None = tt
from_zero (Some limit) = omega arith

up_to_lower : (limit : Option ℕ) (d e : ℕ) → e ≤ d → IsUpTo limit d → IsUpTo limit e
up_to_lower None d e le h = tt
up_to_lower (Some limit) d e le h = omega arith

-- what is reached in a part of the forest is near
part_near : (g : Graph) → IsGraph g → (ss : List ℕ) (limit : ℕ) (words : Table) → IsForestWithin g ss limit words → (v d p : ℕ) → IsVertex g.n v → words v ≡ Pair d p → IsForestWord g ss v (Pair d p) × (d ≤ limit)
part_near g gr ss limit words f v d p at is = go (nearest_below g gr ss v (suc limit))
  where
    go : ((c : ℕ) × IsNearest g ss v c × (c < suc limit)) ⊎ ((c : ℕ) → c < suc limit → HasWalkFromAny g ss v c → ⊥) → IsForestWord g ss v (Pair d p) × (d ≤ limit)
    go (inl (c, least, low)) =
        let word = subst (IsForestWord g ss v) is (f.near v (c, least, omega arith)) in
        let same = nearest_same g ss v d c (forest_nearest g ss v d p word) least in
        (word, omega arith)
    go (inr none) = absurd (not_both (words v) d p is (f.others v at (λ n. none n.0 (omega (arith, n.2)) n.1.walk)))

module _ (g : Graph) (gr : IsGraph g) (max : ℕ) (sources : SourceRule) (words : Table) (ss : List ℕ) (in' : All (IsVertex g.n) ss) (same : (v : ℕ) → IsVertex g.n v → IsSource sources words v ↔ Contains ss v) where
  no_source : (v : ℕ) → IsVertex g.n v → (Contains ss v → ⊥) → IsSource sources words v → ⊥
  no_source v h other source = other ((same v h).0 source)

  module _ (limit : Option ℕ) (roots : Roots) (low : IsBounded max g limit words) (passes : AllHold g max sources limit words roots) where
    own : (v : ℕ) → IsVertex g.n v → Contains ss v → (words v ≡ Pair 0 0) × IsOwnRoot roots v
    own v h here = passes v h OwnSource ((same v h).1 here)

    -- a reached vertex has a walk: by recursion on a bound of the distance
    explained : (bound v d p : ℕ) → d < bound → IsVertex g.n v → words v ≡ Pair d p → HasWalkFromAny g ss v d
    explained zero v d p below h e = absurd (omega arith)
    explained (suc bound) v d p below h e = go (is_source ss v) (λ u c q lt h' e'. explained bound u c q (omega arith) h' e')
      where
        go : Contains ss v ⊎ (Contains ss v → ⊥) → ((u c q : ℕ) → c < d → IsVertex g.n u → words u ≡ Pair c q → HasWalkFromAny g ss u c) → HasWalkFromAny g ss v d
        go (inl here) nearer =
            let zero' : d ≡ 0 = pair_dist d p 0 0 (sym e ∙ (own v h here).0) in
            subst (HasWalkFromAny g ss v) (sym zero') (any_none g ss v here)
        go (inr other) nearer =
            let by = passes v h NamesPredecessor d p e (no_source v h other) in
            let ends = arc_in g gr p v by.2 by.4 in
            let w = nearer p by.0 by.1 (omega (arith, by.5, ends.2)) ends.0 by.3 in
            subst (HasWalkFromAny g ss v) by.5 (any_more g ss p v by.0 by.2 w by.4)

    explained_by : (v d p : ℕ) → IsVertex g.n v → words v ≡ Pair d p → Contains ss v ⊎ (Contains ss v → ⊥) → IsLawful g ss v (Pair d p)
    explained_by v d p h e (inl here) =
        let zero' : Pair d p ≡ Pair 0 0 = sym e ∙ (own v h here).0 in
        inl (here, pair_dist d p 0 0 zero', pair_pred d p 0 0 zero')
    explained_by v d p h e (inr other) =
        let by = passes v h NamesPredecessor d p e (no_source v h other) in
        let w = explained (suc by.0) p by.0 by.1 (omega arith) (arc_in g gr p v by.2 by.4).0 by.3 in
        inr (subst (λ x. HasWalkFromAnyBy g ss v x p) by.5 (any_by g ss p v by.0 by.2 w by.4))

    passed_table : IsTableFrom g ss words
    passed_table = record { lawful = λ v h. lawful v h (cases_word (words v)); own = λ s here. (own s (All-contains (IsVertex g.n) ss s in' here) here).0 }
      where
        lawful : (v : ℕ) → IsVertex g.n v → ((d p : ℕ) × (words v ≡ Pair d p)) ⊎ (words v ≡ Unreached) → IsLawful g ss v (words v)
        lawful v h (inl (d, p, e)) = subst (IsLawful g ss v) (sym e) (explained_by v d p h e (is_source ss v))
        lawful v h (inr e) = subst (IsLawful g ss v) (sym e) tt

    passed_closed : IsClosed g (bound_of max limit) words
    passed_closed u v l a d p e fits =
        let up = up_to_bound max limit g words low (d + l) fits in
        passes v (arc_in g gr u v l a).1 NoLesserOffer u l d p a e up.0 up.1

    passed : IsClosedTable g ss (bound_of max limit) words
    passed = record { graph = gr; vertices = in'; table = passed_table; closed = passed_closed }

  -- what passes without a limit, and with one
  hold_all : (roots : Roots) → AllHold g max sources None words roots → IsWithin g.n max words → IsForest g ss words × IsFar g ss max None
  unfolding bound_of
  hold_all roots passes within = finished_is_forest g ss max words (record { all = passed None roots within passes; within = within }) none
    where
      no_offer : (w : Word) (d p : ℕ) → w ≡ Unreached → IsAtMost w d p → ⊥
      no_offer w d p e h = subst (λ x. IsAtMost x d p) e h

      none : (v : ℕ) → IsLeftOut g words v → ⊥
      none v (u, l, d, p, a, eu, ev) =
          let h = (arc_in g gr u v l a).1 in
          let sum = passes v h OnlyTooFar refl ev u l d p a eu in
          no_offer (words v) (d + l) u ev (passes v h NoLesserOffer u l d p a eu sum tt)

  hold_part : (roots : Roots) (limit : ℕ) → limit ≤ max → AllHold g max sources (Some limit) words roots → IsForestWithin g ss limit words
  unfolding bound_of
  hold_part roots limit low passes = record { near = shows.near; others = λ v h far. others v h far (cases_word (words v)) }
    where
      shows : ShowsWithin g ss limit words
      shows = closed_shows_within g ss limit words (passed (Some limit) roots low passes)

      others : (v : ℕ) → IsVertex g.n v → (IsNear g ss limit v → ⊥) → ((d p : ℕ) × (words v ≡ Pair d p)) ⊎ (words v ≡ Unreached) → words v ≡ Unreached
      others v h far (inl (d, p, e)) = let up = passes v h BeyondLimit d p e in absurd (far (d, shows.dist v d p h e up, up))
      others v h far (inr e) = e

  hold_right : (limit : Option ℕ) (roots : Roots) → IsBounded max g limit words → AllHold g max sources limit words roots → IsRight max g ss limit words
  hold_right None roots within passes = hold_all roots passes within
  hold_right (Some limit) roots low passes = hold_part roots limit low passes

  -- the law of roots
  right_roots : (limit : Option ℕ) → IsRight max g ss limit words → HasRoots g ss words
  right_roots None right = forest_has_roots g ss words gr in' right.0
  right_roots (Some limit) right = part_has_roots g ss limit words gr right

  module _ (limit : Option ℕ) (roots : ℕ → Option ℕ) (passes : AllHold g max sources limit words (Some roots)) where
    along : (k v r : ℕ) → IsVertex g.n v → Contains ss r → LeadsBack words k v r → roots v ≡ Some r
    along zero v r h here back =
        (passes v h OwnSource ((same v h).1 (subst (Contains ss) (sym back.0) here))).1 ∙ ap (λ (x : ℕ). Some x) back.0
    along (suc k) v r h here (d, p, is, long, back) =
        let other : IsSource sources words v → ⊥ = λ source. (let zero' = pair_dist d p 0 0 (sym is ∙ (passes v h OwnSource source).0) in absurd (omega arith)) in
        let by = passes v h NamesPredecessor d p is other in
        passes v h OtherRoot d p is other ∙ along k p r (arc_in g gr p v by.2 by.4).0 here back

    hold_rooted : IsRight max g ss limit words → AreRooted g ss words (Some roots)
    hold_rooted right v d p h e =
        let root = (right_roots limit right).roots v d p h e in
        (root.root, along root.is.0 v root.root h root.source root.is.1, record { chain = root.is; source = root.source; dist = root.dist d p e })

  hold_roots : (limit : Option ℕ) (roots : Roots) → AllHold g max sources limit words roots → IsRight max g ss limit words → AreRooted g ss words roots
  hold_roots limit None passes right = tt
  hold_roots limit (Some roots) passes right = hold_rooted limit roots passes right

  -- the other way: what is reached, and what is near
  right_pair : (limit : Option ℕ) → IsRight max g ss limit words → (v d p : ℕ) → IsVertex g.n v → words v ≡ Pair d p → IsForestWord g ss v (Pair d p) × IsUpTo limit d
  right_pair None right v d p h e = (subst (IsForestWord g ss v) e (right.0 v h), tt)
  right_pair (Some limit) right v d p h e = part_near g gr ss limit words right v d p h e

  right_reached : (limit : Option ℕ) → IsRight max g ss limit words → (v e : ℕ) → IsVertex g.n v → HasWalkFromAny g ss v e → IsUpTo limit e → (d p : ℕ) × (words v ≡ Pair d p)
  right_reached limit right v e h w up = go (cases_word (words v)) (word limit right up)
    where
      word : (limit : Option ℕ) → IsRight max g ss limit words → IsUpTo limit e → IsForestWord g ss v (words v)
      word None right up = right.0 v h
      word (Some limit) right up = let least = nearest_exists g gr ss v e w in right.near v (least.0, least.1, omega (arith, least.2))

      go : ((d p : ℕ) × (words v ≡ Pair d p)) ⊎ (words v ≡ Unreached) → IsForestWord g ss v (words v) → (d p : ℕ) × (words v ≡ Pair d p)
      go (inl pair) is = pair
      go (inr none) is = let no_walk : IsForestWord g ss v Unreached = subst (IsForestWord g ss v) none is in absurd (no_walk e w)

  module _ (limit : Option ℕ) (right : IsRight max g ss limit words) where
    nearest : (v d p : ℕ) → IsVertex g.n v → words v ≡ Pair d p → IsNearest g ss v d
    nearest v d p h e = forest_nearest g ss v d p (right_pair limit right v d p h e).0

    passes_source : (v : ℕ) → IsVertex g.n v → Contains ss v → words v ≡ Pair 0 0
    passes_source v h here =
        let (d, p, e) = right_reached limit right v 0 h (any_none g ss v here) (from_zero limit) in
        go d p e (right_pair limit right v d p h e).0
      where
        go : (d p : ℕ) → words v ≡ Pair d p → IsForestWord g ss v (Pair d p) → words v ≡ Pair 0 0
        go d p e (inl own) = subst (λ x. words v ≡ Pair 0 x) own.2 (subst (λ x. words v ≡ Pair x p) own.1 e)
        go d p e (inr other) = absurd (other.0 here)

    passes_offers : (v u l d p : ℕ) → HasArc g u v l → words u ≡ Pair d p → IsUpTo limit (d + l) → IsAtMost (words v) (d + l) u
    passes_offers v u l d p a eu up =
        let ends = arc_in g gr u v l a in
        let tail = nearest u d p ends.0 eu in
        let walk = any_more g ss u v d l tail.walk a in
        let (e, q, ev) = right_reached limit right v (d + l) ends.1 walk up in
        subst (λ w. IsAtMost w (d + l) u) (sym ev) (tie e q (right_pair limit right v e q ends.1 ev).0 (cases_lt e (d + l)) tail walk ends.2)
      where
        tie : (e q : ℕ) → IsForestWord g ss v (Pair e q) → (e < d + l) ⊎ (d + l ≤ e) → IsNearest g ss u d → HasWalkFromAny g ss v (d + l) → 1 ≤ l → IsAtMost (Pair e q) (d + l) u
        tie e q t (inl h) tail walk long = inl h
        tie e q (inl own) (inr h) tail walk long = absurd (omega (arith, own.1))
        tie e q (inr t) (inr h) tail walk long =
            let least = t.1.least.least (d + l) walk in
            let same' : d + l ≡ e = omega arith in
            inr (sym same', t.1.smallest u (d, l, tail, a, same'))

    passes_before : (v d p : ℕ) → IsVertex g.n v → (Contains ss v → ⊥) → words v ≡ Pair d p → IsExplained g words v d p
    passes_before v d p h other e = go (right_pair limit right v d p h e)
      where
        go : IsForestWord g ss v (Pair d p) × IsUpTo limit d → IsExplained g words v d p
        go (inl own, up) = absurd (other own.0)
        go (inr t, up) =
            let (c, l, least, a, sum) = t.1.before in
            let in'' = (arc_in g gr p v l a).0 in
            let (e', q, ep) = right_reached limit right p c in'' least.walk (up_to_lower limit d c (omega arith) up) in
            (e', q, l, ep, a, omega (arith, nearest_same g ss p e' c (nearest p e' q in'' ep) least))

    passes_unreached : (v : ℕ) → IsVertex g.n v → limit ≡ None → words v ≡ Unreached → (u l d p : ℕ) → HasArc g u v l → words u ≡ Pair d p → ⊥
    passes_unreached v h free ev u l d p a eu =
        let walk = any_more g ss u v d l (nearest u d p (arc_in g gr u v l a).0 eu).walk a in
        let at = right_reached limit right v (d + l) h walk (subst (λ x. IsUpTo x (d + l)) (sym free) tt) in
        not_both (words v) at.0 at.1 at.2 ev

    -- a source's root is itself, and every other vertex has its predecessor's
    passes_own_root : (roots : Roots) → AreRooted g ss words roots → (v : ℕ) → IsVertex g.n v → words v ≡ Pair 0 0 → IsOwnRoot roots v
    passes_own_root None rooted v h e = tt
    passes_own_root (Some roots) rooted v h e =
        let (r, is, at) = rooted v 0 0 h e in
        is ∙ ap (λ (x : ℕ). Some x) (root_only words at.chain.0 0 v r v at.chain.1 (refl, e))

    passes_root : (roots : Roots) → AreRooted g ss words roots → (v d p : ℕ) → IsVertex g.n v → words v ≡ Pair d p → (Contains ss v → ⊥) → IsSameRoot roots v p
    passes_root None rooted v d p h e other = tt
    passes_root (Some roots) rooted v d p h e other =
        let by = passes_before v d p h other e in
        let ends = arc_in g gr p v by.2 by.4 in
        let (r, is, at) = rooted v d p h e in
        let (q, is', at') = rooted p by.0 by.1 ends.0 by.3 in
        let back = root_back words v d p r e (omega (arith, by.5, ends.2)) at.chain in
        is ∙ (ap (λ (x : ℕ). Some x) (root_only words back.0 at'.chain.0 p r q back.1 at'.chain.1) ∙ sym is')

    right_holds : (roots : Roots) → AreRooted g ss words roots → AllHold g max sources limit words roots
    right_holds roots rooted v h Size = tt
    right_holds roots rooted v h OwnSource = λ source. (let e = passes_source v h ((same v h).0 source) in (e, passes_own_root roots rooted v h e))
    right_holds roots rooted v h NoLesserOffer = λ u l d p a eu fits up. passes_offers v u l d p a eu up
    right_holds roots rooted v h NamesPredecessor = λ d p e other. passes_before v d p h (λ here. other ((same v h).1 here)) e
    right_holds roots rooted v h OnlyTooFar = λ free ev u l d p a eu. absurd (passes_unreached v h free ev u l d p a eu)
    right_holds roots rooted v h BeyondLimit = λ d p e. (right_pair limit right v d p h e).1
    right_holds roots rooted v h OtherRoot = λ d p e other. passes_root roots rooted v d p h e (λ here. other ((same v h).1 here))

  -- ## The rules that fail

  module _ (sized : Type 0) (limit : Option ℕ) (roots : Roots) where
    breaks_fails : sized → (v : ℕ) (rule : Rule) → IsVertex g.n v → Breaks g max (claim sources limit words roots) v rule → Fails g max sized (claim sources limit words roots) v rule
    breaks_fails size v Size k b = absurd b
    breaks_fails size v OwnSource k b = (k, size, b)
    breaks_fails size v NoLesserOffer k b = (k, size, b)
    breaks_fails size v NamesPredecessor k b = (k, size, b)
    breaks_fails size v OnlyTooFar k b = (k, size, b)
    breaks_fails size v BeyondLimit k b = (k, size, b)
    breaks_fails size v OtherRoot k b = (k, size, b)

    pub rules_right : IsBounded max g limit words → sized → Passes g max sized (claim sources limit words roots) → IsRight max g ss limit words × AreRooted g ss words roots
    rules_right low size passes =
        let all : AllHold g max sources limit words roots = λ v k rule. rule_holds g max sources limit words roots v rule (λ b. passes v rule (breaks_fails size v rule k b)) in
        let right = hold_right limit roots low all in
        (right, hold_roots limit roots all right)

    pub right_rules : sized → IsRight max g ss limit words → AreRooted g ss words roots → Passes g max sized (claim sources limit words roots)
    right_rules size right rooted v rule f = go rule f
      where
        stays : (rule : Rule) → IsVertex g.n v → Breaks g max (claim sources limit words roots) v rule → ⊥
        stays rule k b = rule_stays g max sources limit words roots v rule (right_holds limit right roots rooted v k rule) b

        go : (rule : Rule) → Fails g max sized (claim sources limit words roots) v rule → ⊥
        go Size f = f.1 size
        go OwnSource f = stays OwnSource f.0 f.2
        go NoLesserOffer f = stays NoLesserOffer f.0 f.2
        go NamesPredecessor f = stays NamesPredecessor f.0 f.2
        go OnlyTooFar f = stays OnlyTooFar f.0 f.2
        go BeyondLimit f = stays BeyondLimit f.0 f.2
        go OtherRoot f = stays OtherRoot f.0 f.2
