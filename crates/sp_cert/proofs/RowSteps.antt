-- The row of a vertex rises by head, then by length, so a binary search finds an arc in it.
use Rattle.std.proofs.Common.{◌≡◌, ℕ, zero, suc, ◌+◌, ◌-◌, ◌<◌, ◌≤◌, ◌⊎◌, ◌↔◌, inl, inr, Bool, true, false, eqb, ltb, cond, List, [], ◌∷◌, length, get_or, Option, Some, None, sym, refl, ap, ◌∙◌, subst, arith, nat_cmp}
use Rattle.std.specs.Prelude.{Contains, filter, IsTrue, Result, Ok, Err, is_ok}
use Rattle.std.specs.Ordering.{ordering_then, ordering_index}
use Rattle.std.specs.List.Sorted.{IsBinarySearchResult, IsSearchInRange, IsPartitionPoint}
use Rattle.std.specs.declared.cmp.Ordering.{Ordering}
use Rattle.std.specs.declared.cmp.Ordering.TheVariants.{Less, Equal, Greater}
use Rattle.std.proofs.lemmas.Bool.{cases_order, cases_lt, cases_Bool, lt-ltb, le-ltb, eq-eqb, eqb-true, ne_eqb, cond-true, cond-false}
use Rattle.std.proofs.lemmas.List.{get_or_default}
use Rattle.sp_paths.specs.declared.arc.Arc.{Arc}
use Rattle.sp_word.specs.Word.{Word, Unreached, Pair, dist_of, pred_of}
use Rattle.sp_word.specs.History.{Table}
use Rattle.sp_paths.specs.Paths.{Graph, HasArc}
use Rattle.sp_paths.specs.Rows.{row_of}
use Rattle.sp_paths.proofs.RowSteps.{kept}
use Rattle.sp_paths.proofs.Core.{not_both, pair_dist, pair_pred}
use Rattle.sp_paths.proofs.RowSteps.{rows_hold_arcs}
use Rattle.sp_graph.specs.Order.{IsNoGreater, IsInOrder}
use Rattle.sp_cert.specs.declared.rule.Rule.{Rule}
use Rattle.sp_cert.specs.declared.rule.Rule.TheVariants.{Size, OwnSource, NoLesserOffer, NamesPredecessor, OnlyTooFar, BeyondLimit, OtherRoot}
use Rattle.sp_cert.specs.declared.sources.SourceRule.{SourceRule}
use Rattle.sp_cert.specs.Claims.{IsSource, IsUpTo, IsAbove}
use Rattle.sp_cert.specs.Rules.{IsExplained, number_of}
use Rattle.sp_cert.specs.Faults.{IsNoFurther, IsRow, HasArcTo, BreaksAt, IsBroken}

-- ## The order of rows

no_greater_trans : (a b c : Arc) → IsNoGreater a b → IsNoGreater b c → IsNoGreater a c
no_greater_trans a b c (inl x) (inl y) = inl (omega arith)
no_greater_trans a b c (inl x) (inr y) = inl (omega arith)
no_greater_trans a b c (inr x) (inl y) = inl (omega arith)
no_greater_trans a b c (inr (e, inl x)) (inr (f, inl y)) = inr (omega arith, inl (omega arith))
no_greater_trans a b c (inr (e, inl x)) (inr (f, inr y)) = inr (omega arith, inl (omega arith))
no_greater_trans a b c (inr (e, inr x)) (inr (f, inl y)) = inr (omega arith, inl (omega arith))
no_greater_trans a b c (inr (e, inr x)) (inr (f, inr y)) = inr (omega arith, inr (omega arith, omega arith))

no_greater_same : (a : Arc) → IsNoGreater a a
no_greater_same a = inr (refl, inr (refl, omega arith))

-- the first arc is no greater than the others, and so on
abbrev Chain : List Arc → Type 0
Chain [] = Unit {0}
Chain (x ∷ xs) = ((y : Arc) → Contains xs y → IsNoGreater x y) × Chain xs

in_order_rest : (x : Arc) (xs : List Arc) → IsInOrder (x ∷ xs) → IsInOrder xs
in_order_rest x xs h k d lt = let same : suc k + 1 ≡ suc (k + 1) = omega arith in rw same at (h (suc k) d (omega arith))

below_rest : (x : Arc) (xs : List Arc) → IsInOrder (x ∷ xs) → (y : Arc) → Contains xs y → IsNoGreater x y
below_rest x [] h y c = absurd (omega (arith, c.1))
below_rest x (z ∷ xs) h y (zero, lt, e) = subst (λ t. IsNoGreater x t) e (h 0 x (omega arith))
below_rest x (z ∷ xs) h y (suc k, lt, e) =
    no_greater_trans x z y (h 0 x (omega arith)) (below_rest z xs (in_order_rest x (z ∷ xs) h) y (k, omega arith, e))

chain_of : (xs : List Arc) → IsInOrder xs → Chain xs
chain_of [] h = tt
chain_of (x ∷ xs) h = (below_rest x xs h, chain_of xs (in_order_rest x xs h))

chain_filter : (p : Arc → Bool) (xs : List Arc) → Chain xs → Chain (filter p xs)
chain_filter p [] h = tt
chain_filter p (x ∷ xs) h = go (cases_Bool (p x)) (chain_filter p xs h.1)
  where
    go : (p x ≡ true) ⊎ (p x ≡ false) → Chain (filter p xs) → Chain (filter p (x ∷ xs))
    go (inl t) rest = rw (cond-true (p x) (x ∷ filter p xs) (filter p xs) t) (λ y c. h.0 y (kept p xs y c).0, rest)
    go (inr f) rest = rw (cond-false (p x) (x ∷ filter p xs) (filter p xs) f) rest

chain_pairs : (xs : List Arc) → Chain xs → (i j : ℕ) (d : Arc) → i ≤ j → j < length xs → IsNoGreater (get_or xs i d) (get_or xs j d)
chain_pairs [] h i j d le lt = absurd (omega arith)
chain_pairs (x ∷ xs) h zero zero d le lt = no_greater_same x
chain_pairs (x ∷ xs) h zero (suc j) d le lt = h.0 (get_or xs j d) (j, omega arith, get_or_default xs j (get_or xs j d) d (omega arith))
chain_pairs (x ∷ xs) h (suc i) zero d le lt = absurd (omega arith)
chain_pairs (x ∷ xs) h (suc i) (suc j) d le lt = chain_pairs xs h.1 i j d (omega arith) (omega arith)

-- the arcs of a row have one tail
row_tail : (arcs : List Arc) (v : ℕ) (k : ℕ) (d : Arc) → k < length (row_of arcs v) → (get_or (row_of arcs v) k d).tail ≡ v
row_tail arcs v k d lt =
    let a = get_or (row_of arcs v) k d in
    eqb-true a.tail v (kept (λ x. eqb x.tail v) arcs a (k, lt, get_or_default (row_of arcs v) k a d lt)).1

pub row_rises : (arcs : List Arc) (v : ℕ) → IsInOrder arcs → IsRow (row_of arcs v)
row_rises arcs v h i j d le lt =
    go (chain_pairs (row_of arcs v) (chain_filter (λ x. eqb x.tail v) arcs (chain_of arcs h)) i j d le lt) (row_tail arcs v i d (omega arith)) (row_tail arcs v j d lt)
  where
    go : IsNoGreater (get_or (row_of arcs v) i d) (get_or (row_of arcs v) j d) → (get_or (row_of arcs v) i d).tail ≡ v → (get_or (row_of arcs v) j d).tail ≡ v → IsNoFurther (get_or (row_of arcs v) i d) (get_or (row_of arcs v) j d)
    go (inl x) e f = absurd (omega arith)
    go (inr x) e f = x.1

-- ## The search

nat_order : (x y : ℕ) → ((nat_cmp x y ≡ Less) × (x < y)) ⊎ (((nat_cmp x y ≡ Equal) × (x ≡ y)) ⊎ ((nat_cmp x y ≡ Greater) × (y < x)))
nat_order x y = go (cases_order x y)
  where
    go : (x ≡ y) ⊎ ((x < y) ⊎ (y < x)) → ((nat_cmp x y ≡ Less) × (x < y)) ⊎ (((nat_cmp x y ≡ Equal) × (x ≡ y)) ⊎ ((nat_cmp x y ≡ Greater) × (y < x)))
    go (inl e) = inr (inl (cond-false (ltb x y) Less (cond (eqb x y) Equal Greater) (le-ltb x y (omega arith)) ∙ cond-true (eqb x y) Equal Greater (eq-eqb x y e), e))
    go (inr (inl h)) = inl (cond-true (ltb x y) Less (cond (eqb x y) Equal Greater) (lt-ltb x y h), h)
    go (inr (inr h)) = inr (inr (cond-false (ltb x y) Less (cond (eqb x y) Equal Greater) (le-ltb x y (omega arith)) ∙ cond-false (eqb x y) Equal Greater (ne_eqb x y (λ e. omega arith)), h))

-- by head, then by length
abbrev compared : (h l h' l' : ℕ) → Ordering
compared h l h' l' = ordering_then (nat_cmp h h') (nat_cmp l l')

abbrev Before : (h l h' l' : ℕ) → Type 0
Before h l h' l' = (h < h') ⊎ ((h ≡ h') × (l < l'))

abbrev Compares : (h l h' l' : ℕ) → Type 0
Compares h l h' l' = ((compared h l h' l' ≡ Less) × Before h l h' l') ⊎ (((compared h l h' l' ≡ Equal) × (h ≡ h') × (l ≡ l')) ⊎ ((compared h l h' l' ≡ Greater) × Before h' l' h l))

compares : (h l h' l' : ℕ) → Compares h l h' l'
compares h l h' l' = go (nat_order h h') (nat_order l l')
  where
    go : ((nat_cmp h h' ≡ Less) × (h < h')) ⊎ (((nat_cmp h h' ≡ Equal) × (h ≡ h')) ⊎ ((nat_cmp h h' ≡ Greater) × (h' < h))) → ((nat_cmp l l' ≡ Less) × (l < l')) ⊎ (((nat_cmp l l' ≡ Equal) × (l ≡ l')) ⊎ ((nat_cmp l l' ≡ Greater) × (l' < l))) → Compares h l h' l'
    go (inl a) b = inl (ap (λ o. ordering_then o (nat_cmp l l')) a.0, inl a.1)
    go (inr (inl a)) (inl b) = inl (ap (λ o. ordering_then o (nat_cmp l l')) a.0 ∙ b.0, inr (a.1, b.1))
    go (inr (inl a)) (inr (inl b)) = inr (inl (ap (λ o. ordering_then o (nat_cmp l l')) a.0 ∙ b.0, a.1, b.1))
    go (inr (inl a)) (inr (inr b)) = inr (inr (ap (λ o. ordering_then o (nat_cmp l l')) a.0 ∙ b.0, inr (sym a.1, b.1)))
    go (inr (inr a)) b = inr (inr (ap (λ o. ordering_then o (nat_cmp l l')) a.0, inl a.1))

less_equal : Less ≡ Equal → ⊥
less_equal e = cc

greater_equal : Greater ≡ Equal → ⊥
greater_equal e = cc

module _ (head len : ℕ) where
  abbrev to : Arc → Ordering
  to a = compared a.head a.len head len

  rises : (a b : Arc) → IsNoFurther a b → ordering_index (to a) ≤ ordering_index (to b)
  rises a b h = go (compares a.head a.len head len) (compares b.head b.len head len) h
    where
      go : Compares a.head a.len head len → Compares b.head b.len head len → IsNoFurther a b → ordering_index (to a) ≤ ordering_index (to b)
      go (inl x) y n = rw x.0 (omega arith)
      go (inr (inl x)) (inl (y, inl z)) (inl n) = absurd (omega arith)
      go (inr (inl x)) (inl (y, inl z)) (inr n) = absurd (omega arith)
      go (inr (inl x)) (inl (y, inr z)) (inl n) = absurd (omega arith)
      go (inr (inl x)) (inl (y, inr z)) (inr n) = absurd (omega arith)
      go (inr (inl x)) (inr (inl y)) n = rw (x.0, y.0) (omega arith)
      go (inr (inl x)) (inr (inr y)) n = rw (x.0, y.0) (omega arith)
      go (inr (inr (x, inl w))) (inl (y, inl z)) (inl n) = absurd (omega arith)
      go (inr (inr (x, inl w))) (inl (y, inl z)) (inr n) = absurd (omega arith)
      go (inr (inr (x, inl w))) (inl (y, inr z)) (inl n) = absurd (omega arith)
      go (inr (inr (x, inl w))) (inl (y, inr z)) (inr n) = absurd (omega arith)
      go (inr (inr (x, inr w))) (inl (y, inl z)) (inl n) = absurd (omega arith)
      go (inr (inr (x, inr w))) (inl (y, inl z)) (inr n) = absurd (omega arith)
      go (inr (inr (x, inr w))) (inl (y, inr z)) (inl n) = absurd (omega arith)
      go (inr (inr (x, inr w))) (inl (y, inr z)) (inr n) = absurd (omega arith)
      go (inr (inr (x, inl w))) (inr (inl y)) (inl n) = absurd (omega arith)
      go (inr (inr (x, inl w))) (inr (inl y)) (inr n) = absurd (omega arith)
      go (inr (inr (x, inr w))) (inr (inl y)) (inl n) = absurd (omega arith)
      go (inr (inr (x, inr w))) (inr (inl y)) (inr n) = absurd (omega arith)
      go (inr (inr x)) (inr (inr y)) n = rw (x.0, y.0) (omega arith)

  equal_is : (a : Arc) → to a ≡ Equal → (a.head ≡ head) × (a.len ≡ len)
  equal_is a e = go (compares a.head a.len head len)
    where
      go : Compares a.head a.len head len → (a.head ≡ head) × (a.len ≡ len)
      go (inl x) = absurd (less_equal (sym x.0 ∙ e))
      go (inr (inl x)) = (x.1, x.2)
      go (inr (inr x)) = absurd (greater_equal (sym x.0 ∙ e))

  is_equal : (a : Arc) → a.head ≡ head → a.len ≡ len → to a ≡ Equal
  is_equal a e f = go (compares a.head a.len head len)
    where
      go : Compares a.head a.len head len → to a ≡ Equal
      go (inl (x, inl y)) = absurd (omega arith)
      go (inl (x, inr y)) = absurd (omega arith)
      go (inr (inl x)) = x.0
      go (inr (inr (x, inl y))) = absurd (omega arith)
      go (inr (inr (x, inr y))) = absurd (omega arith)

  pub search_finds : (arcs : List Arc) (r : Result ℕ ℕ) → IsRow arcs → IsSearchInRange r (length arcs) → IsBinarySearchResult (λ a. compared a.head a.len head len) arcs r → IsTrue (is_ok r) ↔ HasArcTo arcs head len
  search_finds arcs (Ok k) row bound found = (λ t. there, λ h. refl)
    where
      none : Arc
      none = record { tail = 0; head = 0; len = 0 }

      there : HasArcTo arcs head len
      there =
          let a = get_or arcs k none in
          let same = equal_is a (found none) in
          (a, (k, bound, get_or_default arcs k a none bound), same.0, same.1)
  search_finds arcs (Err i) row bound found = (λ t. absurd (cc), λ h. absurd (nowhere h))
    where
      parted : IsPartitionPoint (λ a. to a ≡ Less) (λ a. to a ≡ Greater) arcs i
      parted = found (λ i j d le lt. rises (get_or arcs i d) (get_or arcs j d) (row i j d le lt))

      nowhere : HasArcTo arcs head len → ⊥
      nowhere (a, (k, lt, e), same_head, same_len) = go (cases_lt k i)
        where
          equal : to (get_or arcs k a) ≡ Equal
          equal = ap to e ∙ is_equal a same_head same_len

          go : (k < i) ⊎ (i ≤ k) → ⊥
          go (inl before) = less_equal (sym (parted.0 k a (omega arith) before) ∙ equal)
          go (inr after) = greater_equal (sym (parted.1 k a after lt) ∙ equal)

-- ## Rows and predecessors

module _ (g : Graph) (words : Table) (v d p c q : ℕ) (from : words p ≡ Pair c q) (fits : c ≤ d) where
  explained_to : IsExplained g words v d p → HasArcTo (row_of g.arcs p) v (d - c)
  explained_to (c', q', l, e, a, sum) =
      let same : c' ≡ c = pair_dist c' q' c q (sym e ∙ from) in
      (record { tail = p; head = v; len = l }, ((rows_hold_arcs g 0).row p v l).0 a, refl, omega arith)

  to_explained : HasArcTo (row_of g.arcs p) v (d - c) → IsExplained g words v d p
  to_explained (a, there, head, len) =
      let in' = kept (λ x. eqb x.tail p) g.arcs a there in
      let tail : a.tail ≡ p = eqb-true a.tail p in'.1 in
      let arc : HasArc g p v a.len = subst (λ y. HasArc g y v a.len) tail (subst (λ y. HasArc g a.tail y a.len) head in'.0) in
      (c, q, a.len, from, arc, omega arith)

  pub explained_by_row : IsExplained g words v d p ↔ HasArcTo (row_of g.arcs p) v (d - c)
  explained_by_row = (explained_to, to_explained)

-- a word with a distance is a pair
pub pair_of_dist : (w : Word) (d : ℕ) → dist_of w ≡ Some d → (q : ℕ) × (w ≡ Pair d q)
pair_of_dist Unreached d e = absurd (cc)
pair_of_dist (Pair c q) d e = let same : c ≡ d = cc in (q, ap (λ x. Pair x q) same)

pub pair_of_both : (w : Word) (d p : ℕ) → dist_of w ≡ Some d → pred_of w ≡ Some p → w ≡ Pair d p
pair_of_both Unreached d p e f = absurd (cc)
pair_of_both (Pair c q) d p e f = let a : c ≡ d = cc in let b : q ≡ p = cc in cc

-- ## The rules that a vertex breaks

module _ (g : Graph) (sources : SourceRule) (limit : Option ℕ) (words : Table) (v : ℕ) where
  abbrev At : Rule → Type 0
  At rule = BreaksAt g sources limit words v rule

  none_above : IsUpTo limit 0 → IsAbove limit 0 → ⊥
  none_above = go limit
    where
      go : (limit : Option ℕ) → IsUpTo limit 0 → IsAbove limit 0 → ⊥
      go None low high = high
      go (Some l) low high = absurd (omega arith)

  zero_up_to : IsUpTo limit 0
  zero_up_to = go limit
    where
      go : (limit : Option ℕ) → IsUpTo limit 0
      go None = tt
      go (Some l) = omega arith

  -- a source
  pub own_none : IsSource sources words v → words v ≡ Pair 0 0 → IsBroken At None
  own_none source is Size b = b
  own_none source is OwnSource b = b.1 is
  own_none source is NoLesserOffer b = b
  own_none source is NamesPredecessor (d, p, is', other, none) = other source
  own_none source is OnlyTooFar b = b
  own_none source is BeyondLimit (d, p, is', high) =
      let zero' : d ≡ 0 = pair_dist d p 0 0 (sym is' ∙ is) in
      none_above zero_up_to (subst (IsAbove limit) zero' high)
  own_none source is OtherRoot b = b

  pub own_broken : IsSource sources words v → (words v ≡ Pair 0 0 → ⊥) → IsBroken At (Some OwnSource)
  own_broken source other = ((source, other), least)
    where
      least : (rule : Rule) → At rule → number_of OwnSource ≤ number_of rule
      least Size b = absurd b
      least OwnSource b = omega arith
      least NoLesserOffer b = absurd b
      least NamesPredecessor b = omega arith
      least OnlyTooFar b = absurd b
      least BeyondLimit b = omega arith
      least OtherRoot b = absurd b

  module _ (other : IsSource sources words v → ⊥) where
    -- an unreached vertex
    pub unreached_none : words v ≡ Unreached → IsBroken At None
    unreached_none is Size b = b
    unreached_none is OwnSource b = other b.0
    unreached_none is NoLesserOffer b = b
    unreached_none is NamesPredecessor (d, p, is', away, none) = not_both (words v) d p is' is
    unreached_none is OnlyTooFar b = b
    unreached_none is BeyondLimit (d, p, is', high) = not_both (words v) d p is' is
    unreached_none is OtherRoot b = b

    -- a reached one
    module _ (d p : ℕ) (is : words v ≡ Pair d p) where
      same_explained : (d' p' : ℕ) → words v ≡ Pair d' p' → IsExplained g words v d p → IsExplained g words v d' p'
      same_explained d' p' is' e = subst (λ x. IsExplained g words v d' x) (pair_pred d p d' p' (sym is ∙ is')) (subst (λ x. IsExplained g words v x p) (pair_dist d p d' p' (sym is ∙ is')) e)

      same_above : (d' p' : ℕ) → words v ≡ Pair d' p' → IsAbove limit d' → IsAbove limit d
      same_above d' p' is' high = subst (IsAbove limit) (pair_dist d' p' d p (sym is' ∙ is)) high

      pub breaks_none : IsExplained g words v d p → (IsAbove limit d → ⊥) → IsBroken At None
      breaks_none e low Size b = b
      breaks_none e low OwnSource b = other b.0
      breaks_none e low NoLesserOffer b = b
      breaks_none e low NamesPredecessor (d', p', is', other', none) = none (same_explained d' p' is' e)
      breaks_none e low OnlyTooFar b = b
      breaks_none e low BeyondLimit (d', p', is', high) = low (same_above d' p' is' high)
      breaks_none e low OtherRoot b = b

      pub breaks_names : (IsExplained g words v d p → ⊥) → IsBroken At (Some NamesPredecessor)
      breaks_names none = ((d, p, is, other, none), least)
        where
          least : (rule : Rule) → At rule → number_of NamesPredecessor ≤ number_of rule
          least Size b = absurd b
          least OwnSource b = absurd (other b.0)
          least NoLesserOffer b = absurd b
          least NamesPredecessor b = omega arith
          least OnlyTooFar b = absurd b
          least BeyondLimit b = omega arith
          least OtherRoot b = absurd b

      pub breaks_limit : IsExplained g words v d p → IsAbove limit d → IsBroken At (Some BeyondLimit)
      breaks_limit e high = ((d, p, is, high), least)
        where
          least : (rule : Rule) → At rule → number_of BeyondLimit ≤ number_of rule
          least Size b = absurd b
          least OwnSource b = absurd (other b.0)
          least NoLesserOffer b = absurd b
          least NamesPredecessor (d', p', is', other', none) = absurd (none (same_explained d' p' is' e))
          least OnlyTooFar b = absurd b
          least BeyondLimit b = omega arith
          least OtherRoot b = absurd b

pub word_of_none : (w : Word) → dist_of w ≡ None → w ≡ Unreached
word_of_none Unreached e = refl
word_of_none (Pair d p) e = absurd (cc)

pub word_of_no_pred : (w : Word) → pred_of w ≡ None → w ≡ Unreached
word_of_no_pred Unreached e = refl
word_of_no_pred (Pair d p) e = absurd (cc)
