-- What one more arc leaves out.
use Rattle.std.proofs.Common.{◌≡◌, ℕ, ◌+◌, ◌<◌, ◌≤◌, ◌⊎◌, inl, inr, List, [], ◌∷◌, ◌++◌, length, get_or, take, min, Option, Some, None, sym, refl, ap, ◌∙◌, arith}
use Rattle.std.proofs.lemmas.Bool.{cases_lt}
use Rattle.std.proofs.lemmas.List.{take_more}
use Rattle.std.proofs.lemmas.List.Elements.{Contains-push, Contains-append_left, Contains-push_cases}
use Rattle.sp_word.specs.Word.{Word, Unreached, Pair}
use Rattle.sp_word.specs.History.{Table}
use Rattle.sp_paths.specs.declared.arc.Arc.{Arc}
use Rattle.sp_paths.specs.Paths.{HasArc, IsLeftOut}
use Rattle.sp_graph.specs.LeftOut.{network, IsLeastLeftOut, smaller_of, LeadsOut}
use Rattle.sp_paths.proofs.Core.{not_both}

-- an arc of the arcs so far and one more
pub arc_more : (n : ℕ) (arcs : List Arc) (arc : Arc) (u v l : ℕ) → HasArc (network n (arcs ++ arc ∷ [])) u v l → HasArc (network n arcs) u v l ⊎ (arc ≡ record { tail = u; head = v; len = l })
arc_more n arcs arc u v l h = Contains-push_cases arcs arc (record { tail = u; head = v; len = l }) h

-- one more arc, and what it leaves out
left_more : (n : ℕ) (arcs : List Arc) (arc : Arc) (words : Table) (v : ℕ) → IsLeftOut (network n (arcs ++ arc ∷ [])) words v → IsLeftOut (network n arcs) words v ⊎ ((d p : ℕ) × (v ≡ arc.head) × (words arc.tail ≡ Pair d p) × (words arc.head ≡ Unreached))
left_more n arcs arc words v (u, l, d, p, a, eu, ev) = go (arc_more n arcs arc u v l a)
  where
    go : HasArc (network n arcs) u v l ⊎ (arc ≡ record { tail = u; head = v; len = l }) → IsLeftOut (network n arcs) words v ⊎ ((d p : ℕ) × (v ≡ arc.head) × (words arc.tail ≡ Pair d p) × (words arc.head ≡ Unreached))
    go (inl a') = inl (u, l, d, p, a', eu, ev)
    go (inr same) = inr (d, p, ap (λ x. x.head) (sym same), ap (λ x. words x.tail) same ∙ eu, ap (λ x. words x.head) same ∙ ev)

left_widen : (n : ℕ) (arcs : List Arc) (arc : Arc) (words : Table) (v : ℕ) → IsLeftOut (network n arcs) words v → IsLeftOut (network n (arcs ++ arc ∷ [])) words v
left_widen n arcs arc words v (u, l, d, p, a, eu, ev) = (u, l, d, p, Contains-append_left arcs (arc ∷ []) (record { tail = u; head = v; len = l }) a, eu, ev)

left_last : (n : ℕ) (arcs : List Arc) (arc : Arc) (words : Table) (d p : ℕ) → words arc.tail ≡ Pair d p → words arc.head ≡ Unreached → IsLeftOut (network n (arcs ++ arc ∷ [])) words arc.head
left_last n arcs arc words d p eu ev = (arc.tail, arc.len, d, p, Contains-push arcs arc, eu, ev)

-- the arc leaves nothing out
pub least_keeps : (n : ℕ) (arcs : List Arc) (arc : Arc) (words : Table) (far : Option ℕ) → ((d p : ℕ) → words arc.tail ≡ Pair d p → words arc.head ≡ Unreached → ⊥) → IsLeastLeftOut (network n arcs) words far → IsLeastLeftOut (network n (arcs ++ arc ∷ [])) words far
least_keeps n arcs arc words None none h = λ v out. go v (left_more n arcs arc words v out)
  where
    go : (v : ℕ) → IsLeftOut (network n arcs) words v ⊎ ((d p : ℕ) × (v ≡ arc.head) × (words arc.tail ≡ Pair d p) × (words arc.head ≡ Unreached)) → ⊥
    go v (inl old) = h v old
    go v (inr (d, p, e, eu, ev)) = none d p eu ev
least_keeps n arcs arc words (Some v) none h = (left_widen n arcs arc words v h.0, λ w out. go w (left_more n arcs arc words w out))
  where
    go : (w : ℕ) → IsLeftOut (network n arcs) words w ⊎ ((d p : ℕ) × (w ≡ arc.head) × (words arc.tail ≡ Pair d p) × (words arc.head ≡ Unreached)) → v ≤ w
    go w (inl old) = h.1 w old
    go w (inr (d, p, e, eu, ev)) = absurd (none d p eu ev)

-- the arc leaves its head out
pub least_adds : (n : ℕ) (arcs : List Arc) (arc : Arc) (words : Table) (far : Option ℕ) (d p : ℕ) → words arc.tail ≡ Pair d p → words arc.head ≡ Unreached → IsLeastLeftOut (network n arcs) words far → IsLeastLeftOut (network n (arcs ++ arc ∷ [])) words (Some (smaller_of far arc.head))
least_adds n arcs arc words None d p eu ev h = (left_last n arcs arc words d p eu ev, λ w out. go w (left_more n arcs arc words w out))
  where
    go : (w : ℕ) → IsLeftOut (network n arcs) words w ⊎ ((d p : ℕ) × (w ≡ arc.head) × (words arc.tail ≡ Pair d p) × (words arc.head ≡ Unreached)) → arc.head ≤ w
    go w (inl old) = absurd (h w old)
    go w (inr (d', p', e, eu', ev')) = omega arith
least_adds n arcs arc words (Some v) d p eu ev h = (here (cases_lt v arc.head), λ w out. go w (left_more n arcs arc words w out))
  where
    here : (v < arc.head) ⊎ (arc.head ≤ v) → IsLeftOut (network n (arcs ++ arc ∷ [])) words (min v arc.head)
    here (inl lt) = let same : min v arc.head ≡ v = omega arith in rw same (left_widen n arcs arc words v h.0)
    here (inr le) = let same : min v arc.head ≡ arc.head = omega arith in rw same (left_last n arcs arc words d p eu ev)

    go : (w : ℕ) → IsLeftOut (network n arcs) words w ⊎ ((d p : ℕ) × (w ≡ arc.head) × (words arc.tail ≡ Pair d p) × (words arc.head ≡ Unreached)) → min v arc.head ≤ w
    go w (inl old) = omega (arith, h.1 w old)
    go w (inr (d', p', e, eu', ev')) = omega arith

-- what is reached is a pair
reached_pair : (w : Word) → (w ≡ Unreached → ⊥) → (d p : ℕ) × (w ≡ Pair d p)
reached_pair Unreached h = absurd (h refl)
reached_pair (Pair d p) h = (d, p, refl)

-- the loop over the arcs
module _ (n : ℕ) (arcs : List Arc) (i : ℕ) (words : Table) (far : Option ℕ) (arc : Arc) (in' : i < length arcs) (is : get_or arcs i arc ≡ arc) (h : IsLeastLeftOut (network n (take i arcs)) words far) where
  next : take (i + 1) arcs ≡ take i arcs ++ arc ∷ []
  next = take_more arcs i arc in' ∙ ap (λ x. take i arcs ++ x ∷ []) is

  pub loop_keeps : (LeadsOut (words arc.tail) (words arc.head) → ⊥) → IsLeastLeftOut (network n (take (i + 1) arcs)) words far
  loop_keeps none = rw next (least_keeps n (take i arcs) arc words far (λ d p eu ev. none (λ e. not_both (words arc.tail) d p eu e, ev)) h)

  pub loop_adds : LeadsOut (words arc.tail) (words arc.head) → (r : ℕ) → r ≡ smaller_of far arc.head → IsLeastLeftOut (network n (take (i + 1) arcs)) words (Some r)
  loop_adds out r e = let from = reached_pair (words arc.tail) out.0 in rw (next, e) (least_adds n (take i arcs) arc words far from.0 from.1 from.2 out.1 h)
