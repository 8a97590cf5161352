-- Chains of predecessors, and numbers that are written down along them.
use Rattle.std.proofs.Common.{◌≡◌, ℕ, zero, suc, ◌+◌, ◌-◌, ◌<◌, ◌≤◌, ◌⊎◌, inl, inr, List, length, refl, sym, ◌∙◌, subst, arith}
use Rattle.std.specs.Prelude.{slice_set}
use Rattle.std.proofs.lemmas.Bool.{cases_eq, cases_lt}
use Rattle.std.proofs.lemmas.List.{get_or-set_other}
use Rattle.std.proofs.lemmas.Grind.{get_or-set_at}
use Rattle.sp_word.specs.Word.{Word, Unreached, Pair}
use Rattle.sp_word.specs.History.{Table}
use Rattle.sp_paths.specs.Paths.{IsVertex, word_at}
use Rattle.sp_paths.proofs.Core.{pair_dist, pair_pred, not_both}
use Rattle.sp_paths.specs.Roots.{LeadsBack, IsRoot, IsRootOrNone, IsBackStep, FallsBack}
use Rattle.sp_answer.specs.Rooted.{AreRoots, IsReached, AreKnown, StayKnown, AreFound, root_at}

-- ## Chains

pub root_on : (words : Table) (v d p r : ℕ) → words v ≡ Pair d p → 0 < d → IsRoot words p r → IsRoot words v r
root_on words v d p r is low (k, back) = (suc k, (d, p, is, low, back))

pub root_back : (words : Table) (v d p r : ℕ) → words v ≡ Pair d p → 0 < d → IsRoot words v r → IsRoot words p r
root_back words v d p r is low (zero, back) = let none = pair_dist d p 0 0 (sym is ∙ back.1) in absurd (omega arith)
root_back words v d p r is low (suc k, (d', p', is', low', back)) = (k, subst (λ x. LeadsBack words k x r) (pair_pred d' p' d p (sym is' ∙ is)) back)

no_root : (words : Table) (v r : ℕ) → words v ≡ Unreached → IsRoot words v r → ⊥
no_root words v r is (zero, back) = not_both (words v) 0 0 back.1 is
no_root words v r is (suc k, (d, p, is', low, back)) = not_both (words v) d p is' is

module _ (n : ℕ) (words : Table) (falls : FallsBack n words) where
  pub own_root : (v d p : ℕ) → IsVertex n v → words v ≡ Pair d p → d ≡ 0 → IsRoot words v v
  own_root v d p at is none = go (falls v d p at is)
    where
      go : IsBackStep n words d p → IsRoot words v v
      go (inl own) = (0, (refl, subst (λ x. words v ≡ Pair 0 x) own.1 (subst (λ x. words v ≡ Pair x p) own.0 is)))
      go (inr more) = absurd (omega (arith, more.0))

  pub next_there : (v d p : ℕ) → IsVertex n v → words v ≡ Pair d p → 0 < d → IsVertex n p × ((e q : ℕ) × (words p ≡ Pair e q) × (e < d))
  next_there v d p at is low = go (falls v d p at is)
    where
      go : IsBackStep n words d p → IsVertex n p × ((e q : ℕ) × (words p ≡ Pair e q) × (e < d))
      go (inl own) = absurd (omega (arith, own.0))
      go (inr more) = (more.1, more.2)

  -- a chain is shorter from the next vertex on
  pub next_less : (v d p e q : ℕ) → IsVertex n v → words v ≡ Pair d p → 0 < d → words p ≡ Pair e q → e < d
  next_less v d p e q at is low next =
      let there = next_there v d p at is low in
      let same = pair_dist e q there.1.0 there.1.1 (sym next ∙ there.1.2) in
      omega (arith, there.1.3)

  -- a chain ends at a vertex
  pub root_vertex : (k v r : ℕ) → IsVertex n v → LeadsBack words k v r → IsVertex n r
  root_vertex zero v r at back = subst (IsVertex n) back.0 at
  root_vertex (suc k) v r at (d, p, is, low, back) = root_vertex k p r (next_there v d p at is low).0 back

  -- a chain is the same in a table with the same words
  pub leads_same : (other : Table) → ((v : ℕ) → IsVertex n v → other v ≡ words v) → (k v r : ℕ) → IsVertex n v → LeadsBack words k v r → LeadsBack other k v r
  leads_same other same zero v r at back = (back.0, same v at ∙ back.1)
  leads_same other same (suc k) v r at (d, p, is, low, back) = (d, p, same v at ∙ is, low, leads_same other same k p r (next_there v d p at is low).0 back)

-- ## Numbers

module _ (roots : List ℕ) (v r : ℕ) (here : IsVertex (length roots) v) where
  set_here : (u : ℕ) → IsVertex (length roots) u → u ≡ v → root_at (slice_set roots (v - 1) r) u ≡ r
  set_here u at same = get_or-set_at roots (v - 1) (u - 1) r 0 (omega arith) (let low = here.0 in let high = here.1 in omega arith)

  set_elsewhere : (u : ℕ) → IsVertex (length roots) u → (u ≡ v → ⊥) → root_at (slice_set roots (v - 1) r) u ≡ root_at roots u
  set_elsewhere u at other = get_or-set_other roots (v - 1) (u - 1) r 0 (λ same. other (let low = here.0 in let low' = at.0 in omega arith))

pub set_known : (words : List Word) (roots : List ℕ) (v r : ℕ) → length roots ≡ length words → IsVertex (length words) v → AreKnown words roots → IsRoot (word_at words) v r → AreKnown words (slice_set roots (v - 1) r)
set_known words roots v r size here known root u at some = go (cases_eq u v)
  where
    in' : (x : ℕ) → IsVertex (length words) x → IsVertex (length roots) x
    in' x h = subst (λ n. IsVertex n x) (sym size) h

    go : (u ≡ v) ⊎ (u ≡ v → ⊥) → IsRoot (word_at words) u (root_at (slice_set roots (v - 1) r) u)
    go (inl same) = subst (IsRoot (word_at words) u) (sym (set_here roots v r (in' v here) u (in' u at) same)) (subst (λ x. IsRoot (word_at words) x r) (sym same) root)
    go (inr other) =
        let is = set_elsewhere roots v r (in' v here) u (in' u at) other in
        subst (IsRoot (word_at words) u) (sym is) (known u at (subst (λ x. 0 < x) is some))

pub set_stays : (n : ℕ) (first roots : List ℕ) (v r : ℕ) → length roots ≡ n → IsVertex n v → 1 ≤ r → StayKnown n first roots → StayKnown n first (slice_set roots (v - 1) r)
set_stays n first roots v r size here some stays u at was = go (cases_eq u v)
  where
    in' : (x : ℕ) → IsVertex n x → IsVertex (length roots) x
    in' x h = subst (λ k. IsVertex k x) (sym size) h

    go : (u ≡ v) ⊎ (u ≡ v → ⊥) → 0 < root_at (slice_set roots (v - 1) r) u
    go (inl same) = subst (λ x. 0 < x) (sym (set_here roots v r (in' v here) u (in' u at) same)) (omega arith)
    go (inr other) = subst (λ x. 0 < x) (sym (set_elsewhere roots v r (in' v here) u (in' u at) other)) (stays u at was)

pub set_found : (roots : List ℕ) (v r : ℕ) → IsVertex (length roots) v → 1 ≤ r → 0 < root_at (slice_set roots (v - 1) r) v
set_found roots v r here some = subst (λ x. 0 < x) (sym (set_here roots v r here v here refl)) (omega arith)

pub stays_itself : (n : ℕ) (roots : List ℕ) → StayKnown n roots roots
stays_itself n roots v at was = was

pub stays_along : (n : ℕ) (a b c : List ℕ) → StayKnown n a b → StayKnown n b c → StayKnown n a c
stays_along n a b c f g v at was = g v at (f v at was)

-- one vertex more has its number
pub found_more : (words : List Word) (before after : List ℕ) (count : ℕ) → count < length words → AreFound words before count → StayKnown (length words) before after → (IsReached (word_at words) (count + 1) → 0 < root_at after (count + 1)) → AreFound words after (count + 1)
found_more words before after count low found stays last v at up reached = go (cases_lt count v)
  where
    go : (count < v) ⊎ (v ≤ count) → 0 < root_at after v
    go (inl new) = let same : v ≡ count + 1 = omega arith in subst (λ x. 0 < root_at after x) (sym same) (last (subst (IsReached (word_at words)) same reached))
    go (inr old) = stays v (at, omega arith) (found v at old reached)

pub are_roots : (words : List Word) (roots : List ℕ) → length roots ≡ length words → AreKnown words roots → AreFound words roots (length words) → AreRoots words roots
are_roots words roots size known found = record { size = size; each = λ v at. go v at (word_at words v) refl }
  where
    none : (v : ℕ) → IsVertex (length words) v → word_at words v ≡ Unreached → (0 < root_at roots v) ⊎ (root_at roots v ≤ 0) → root_at roots v ≡ 0
    none v at is (inl some) = absurd (no_root (word_at words) v (root_at roots v) is (known v at some))
    none v at is (inr zero') = omega arith

    go : (v : ℕ) → IsVertex (length words) v → (w : Word) → word_at words v ≡ w → IsRootOrNone (word_at words) v (root_at roots v) w
    go v at Unreached is = none v at is (cases_lt 0 (root_at roots v))
    go v at (Pair d p) is = known v at (found v at.0 at.1 (d, p, is))
