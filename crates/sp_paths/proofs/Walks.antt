-- Walks are lists in the definitions. The proofs below this file see them only through their last arc.
use Rattle.std.proofs.Common.{◌≡◌, ℕ, ◌+◌, ◌≤◌, ◌⊎◌, inl, inr, List, [], ◌∷◌, ◌++◌, Some, sym, refl, ap, ◌∙◌, subst, arith}
use Rattle.std.specs.Prelude.{Contains}
use Rattle.std.proofs.lemmas.List.Elements.{All-push, All-pop, All-nil, All-contains}
use Rattle.std.proofs.lemmas.List.Sums.{sum_by_push}
use Rattle.sp_paths.specs.declared.arc.Arc.{Arc}
use Rattle.sp_word.specs.Word.{Pair}
use Rattle.sp_paths.specs.Paths.{Graph, IsGraph, IsVertex, IsArc, HasArc, LeadsTo, walk_length, HasWalk, HasWalkBy, IsLeast, IsLawful}

-- an arc of a graph has vertices for its ends, and a positive length
pub arc_in : (g : Graph) → IsGraph g → (u v l : ℕ) → HasArc g u v l → IsVertex g.n u × IsVertex g.n v × (1 ≤ l)
arc_in g gr u v l a = All-contains (IsArc g.n) g.arcs (record { tail = u; head = v; len = l }) gr a

leads_push : (walk : List Arc) (a : Arc) (s : ℕ) → LeadsTo walk s a.tail → LeadsTo (walk ++ a ∷ []) s a.head
leads_push [] a s h = (sym h, refl)
leads_push (b ∷ walk) a s h = (h.0, leads_push walk a b.head h.1)

leads_pop : (walk : List Arc) (a : Arc) (s v : ℕ) → LeadsTo (walk ++ a ∷ []) s v → LeadsTo walk s a.tail × (a.head ≡ v)
leads_pop [] a s v h = (sym h.0, h.1)
leads_pop (b ∷ walk) a s v h = let r = leads_pop walk a b.head v h.1 in ((h.0, r.0), r.1)

-- a list is empty or has a last element
last_arc : (walk : List Arc) → (walk ≡ []) ⊎ ((rest : List Arc) × (a : Arc) × (walk ≡ rest ++ a ∷ []))
last_arc [] = inl refl
last_arc (b ∷ walk) = after (last_arc walk)
  where
    after : (walk ≡ []) ⊎ ((rest : List Arc) × (a : Arc) × (walk ≡ rest ++ a ∷ [])) → (b ∷ walk ≡ []) ⊎ ((rest : List Arc) × (a : Arc) × (b ∷ walk ≡ rest ++ a ∷ []))
    after (inl e) = inr ([], b, ap (λ w. b ∷ w) e)
    after (inr (rest, a, e)) = inr (b ∷ rest, a, ap (λ w. b ∷ w) e)

-- the empty walk
pub walk_none : (g : Graph) (s : ℕ) → HasWalk g s s 0
walk_none g s = ([], record { of_arcs = All-nil (λ a. Contains g.arcs a); leads = refl }, refl)

-- a walk and one more arc
pub walk_by : (g : Graph) (s u v c l : ℕ) → HasWalk g s u c → HasArc g u v l → HasWalkBy g s v (c + l) u
walk_by g s u v c l (walk, w, e) a =
    let arc : Arc = record { tail = u; head = v; len = l } in (
      walk,
      arc,
      record { of_arcs = All-push (λ x. Contains g.arcs x) walk arc w.of_arcs a; leads = leads_push walk arc s w.leads },
      sum_by_push (λ x. x.len) walk arc ∙ ap (λ n. n + l) e,
      refl,
    )

pub walk_from_by : (g : Graph) (s v d p : ℕ) → HasWalkBy g s v d p → HasWalk g s v d
walk_from_by g s v d p (walk, last, w, e, t) = (walk ++ last ∷ [], w, e)

pub walk_more : (g : Graph) (s u v c l : ℕ) → HasWalk g s u c → HasArc g u v l → HasWalk g s v (c + l)
walk_more g s u v c l w a = walk_from_by g s v (c + l) u (walk_by g s u v c l w a)

-- a walk whose last arc leaves p is a walk to p and that arc
pub walk_by_parts : (g : Graph) (s v d p : ℕ) → HasWalkBy g s v d p → (c l : ℕ) × HasWalk g s p c × HasArc g p v l × (c + l ≡ d)
walk_by_parts g s v d p (walk, last, w, e, t) =
    let all = All-pop (λ x. Contains g.arcs x) (walk ++ last ∷ []) walk (Some last) refl w.of_arcs in
    let leads = leads_pop walk last s v w.leads in
    let W : ℕ → Type 0 = λ u. HasWalk g s u (walk_length walk) in
    let A : ℕ → ℕ → Type 0 = λ u x. HasArc g u x last.len in (
      walk_length walk,
      last.len,
      subst W t (walk, record { of_arcs = all.0; leads = leads.0 }, refl),
      subst (λ u. A u v) t (subst (λ x. A last.tail x) leads.1 all.1),
      sym (sum_by_push (λ x. x.len) walk last) ∙ e,
    )

-- a walk is empty, or a walk and one more arc
pub walk_cases : (g : Graph) (s v d : ℕ) → HasWalk g s v d → ((s ≡ v) × (d ≡ 0)) ⊎ ((u c l : ℕ) × HasWalk g s u c × HasArc g u v l × (c + l ≡ d))
walk_cases g s v d (walk, w, e) = go (last_arc walk)
  where
    go : (walk ≡ []) ⊎ ((rest : List Arc) × (a : Arc) × (walk ≡ rest ++ a ∷ [])) → ((s ≡ v) × (d ≡ 0)) ⊎ ((u c l : ℕ) × HasWalk g s u c × HasArc g u v l × (c + l ≡ d))
    go (inl q) = inl ((rw q at w).leads, sym e ∙ ap walk_length q)
    go (inr (rest, a, q)) =
        let r = walk_by_parts g s v d a.tail (rest, a, (rw q at w), sym (ap walk_length q) ∙ e, refl) in
        inr (a.tail, r.0, r.1, r.2, r.3, r.4)

-- a walk ends at a vertex
pub walk_vertex : (g : Graph) → IsGraph g → (s : ℕ) → IsVertex g.n s → (v d : ℕ) → HasWalk g s v d → IsVertex g.n v
walk_vertex g gr s in' v d w = go (walk_cases g s v d w)
  where
    go : ((s ≡ v) × (d ≡ 0)) ⊎ ((u c l : ℕ) × HasWalk g s u c × HasArc g u v l × (c + l ≡ d)) → IsVertex g.n v
    go (inl h) = rw h.0 at in'
    go (inr (u, c, l, w', a, e)) = (arc_in g gr u v l a).1

-- a lawful pair is of a walk
pub lawful_walk : (g : Graph) (s v d p : ℕ) → IsLawful g s v (Pair d p) → HasWalk g s v d
lawful_walk g s v d p (inl own) = rw (own.0, own.1) (walk_none g s)
lawful_walk g s v d p (inr by) = walk_from_by g s v d p by

-- two least lengths are one
pub least_same : (g : Graph) (s v d e : ℕ) → IsLeast g s v d → IsLeast g s v e → d ≡ e
least_same g s v d e a b = omega (arith, a.least e b.walk, b.least d a.walk)
