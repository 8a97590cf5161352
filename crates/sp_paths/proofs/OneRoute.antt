-- There is at most one route to a vertex: read from its end, each vertex has one before it.
use Rattle.std.proofs.Common.{◌≡◌, ℕ, zero, suc, ◌+◌, ◌<◌, ◌≤◌, ◌⊎◌, inl, inr, List, [], ◌∷◌, ◌++◌, length, sym, ap, ◌∙◌, subst, arith}
use Rattle.std.proofs.lemmas.List.{length-append}
use Rattle.sp_paths.specs.Paths.{Graph, IsTreePair}
use Rattle.sp_paths.proofs.Walks.{least_same}
use Rattle.sp_paths.specs.Routes.{IsBefore, GoesOn}
use Rattle.sp_paths.specs.RouteLaws.{RoutesAreOne}
use Rattle.sp_paths.proofs.RouteSteps.{goes_pop, last_of}

pub before_one : (g : Graph) (s p q v : ℕ) → IsBefore g s p v → IsBefore g s q v → p ≡ q
before_one g s p q v (other, d, pair) (other', e, pair') =
    let same : d ≡ e = least_same g s v d e pair.least pair'.least in
    let here : IsTreePair g s v d q = subst (λ x. IsTreePair g s v x q) (sym same) pair' in
    omega (arith, pair.smallest q here.before, here.smallest p pair.before)

module _ (g : Graph) (s : ℕ) where
  -- a list with a last element doesn't end at the source
  not_source : (v t p : ℕ) → s ≡ t → v ≡ t → IsBefore g s p v → ⊥
  not_source v t p own same before = before.0 (same ∙ sym own)

  abbrev Ends : List ℕ → Type 0
  Ends xs = (xs ≡ []) ⊎ ((rest : List ℕ) × (x : ℕ) × (xs ≡ rest ++ x ∷ []))

  popped : (t : ℕ) (xs rest : List ℕ) (x : ℕ) → xs ≡ rest ++ x ∷ [] → GoesOn g s s xs t → (x ≡ t) × (p : ℕ) × GoesOn g s s rest p × IsBefore g s p x
  popped t xs rest x e h = goes_pop g s s x t rest (subst (λ l. GoesOn g s s l t) e h)

  empty_one : (t : ℕ) (a b rest : List ℕ) (y : ℕ) → a ≡ [] → b ≡ rest ++ y ∷ [] → GoesOn g s s a t → GoesOn g s s b t → ⊥
  empty_one t a b rest y e e' ga gb =
      let r = popped t b rest y e' gb in
      not_source y t r.1 (subst (λ l. GoesOn g s s l t) e ga) r.0 r.3

  shorter : (m : ℕ) (a rest : List ℕ) (x : ℕ) → a ≡ rest ++ x ∷ [] → length a ≤ m → length rest + 1 ≤ m
  shorter m a rest x e few = omega (arith, few, ap length e, length-append rest (x ∷ []))

  -- two lists that go on to the same vertex are one, where that is known of shorter lists
  goes_by : (t : ℕ) (a b : List ℕ) → ((p : ℕ) (x y : List ℕ) → length x + 1 ≤ length a → GoesOn g s s x p → GoesOn g s s y p → x ≡ y) → GoesOn g s s a t → GoesOn g s s b t → Ends a → Ends b → a ≡ b
  goes_by t a b front ga gb (inl e) (inl e') = e ∙ sym e'
  goes_by t a b front ga gb (inl e) (inr (rest, y, e')) = absurd (empty_one t a b rest y e e' ga gb)
  goes_by t a b front ga gb (inr (rest, x, e)) (inl e') = absurd (empty_one t b a rest x e' e gb ga)
  goes_by t a b front ga gb (inr (rest, x, e)) (inr (rest', y, e')) =
      let ra = popped t a rest x e ga in
      let rb = popped t b rest' y e' gb in
      let last : x ≡ y = ra.0 ∙ sym rb.0 in
      let before : ra.1 ≡ rb.1 = before_one g s ra.1 rb.1 y (subst (IsBefore g s ra.1) last ra.3) rb.3 in
      let same : rest ≡ rest' = front rb.1 rest rest' (shorter (length a) a rest x e (omega arith)) (subst (GoesOn g s s rest) before ra.2) rb.2 in
      e ∙ ap (λ r. r ++ x ∷ []) same ∙ ap (λ z. rest' ++ z ∷ []) last ∙ sym e'

  goes_one : (n t : ℕ) (a b : List ℕ) → length a < n → GoesOn g s s a t → GoesOn g s s b t → a ≡ b
  goes_one zero t a b few ga gb = absurd (omega arith)
  goes_one (suc n) t a b few ga gb = goes_by t a b (λ p x y less hx hy. goes_one n p x y (omega arith) hx hy) ga gb (last_of a) (last_of b)

pub routes_are_one : RoutesAreOne
routes_are_one g s t [] b ra rb = absurd ra
routes_are_one g s t (u ∷ a) [] ra rb = absurd rb
routes_are_one g s t (u ∷ a) (v ∷ b) (own, ga) (own', gb) =
    let rest : a ≡ b = goes_one g s (suc (length a)) t a b (omega arith) (subst (λ x. GoesOn g s x a t) own ga) (subst (λ x. GoesOn g s x b t) own' gb) in
    ap (λ x. x ∷ a) (own ∙ sym own') ∙ ap (λ r. v ∷ r) rest
