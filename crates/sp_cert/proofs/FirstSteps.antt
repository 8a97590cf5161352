-- The earliest of some faults, and of the faults of several things.
use Rattle.std.proofs.Common.{◌≡◌, ℕ, zero, suc, ◌<◌, ◌≤◌, ◌⊎◌, inl, inr, true, false, cond, eqb, ltb, List, [], ◌∷◌, ◌++◌, Option, Some, None, sym, refl, ap, subst, arith}
use Rattle.std.specs.Prelude.{Contains, ◌&&◌}
use Rattle.std.specs.List.{AllZip}
use Rattle.std.proofs.lemmas.Bool.{cases_Bool, cases_lt, or_cases, or_parts, and_parts, and_cases, ltb-true, ltb-false, eqb-true, eqb-false, cond-true, cond-false}
use Rattle.std.proofs.lemmas.List.Elements.{Contains-append_left, Contains-append_right, Contains-append_cases}
use Rattle.rayon.specs.Lists.{Reduces}
use Rattle.rayon.proofs.Reducing.{Reduces-elim}
use Rattle.sp_cert.specs.declared.rule.Rule.{Rule}
use Rattle.sp_cert.specs.declared.fault.BrokenRule.{BrokenRule}
use Rattle.sp_cert.specs.Rules.{number_of, NoLater}
use Rattle.sp_cert.specs.Faults.{IsFirstOf, IsBroken, is_later, earlier_of}

no_later_trans : (f g : BrokenRule) (w : ℕ) (other : Rule) → NoLater f.vertex f.rule g.vertex g.rule → NoLater g.vertex g.rule w other → NoLater f.vertex f.rule w other
no_later_trans f g w other (inl a) (inl b) = inl (omega arith)
no_later_trans f g w other (inl a) (inr b) = inl (omega arith)
no_later_trans f g w other (inr a) (inl b) = inl (omega arith)
no_later_trans f g w other (inr a) (inr b) = inr (omega arith, omega arith)

later : (f g : BrokenRule) → is_later f g ≡ true → NoLater g.vertex g.rule f.vertex f.rule
later f g h = go (or_cases (ltb g.vertex f.vertex) (eqb g.vertex f.vertex && ltb (number_of g.rule) (number_of f.rule)) h)
  where
    go : (ltb g.vertex f.vertex ≡ true) ⊎ ((eqb g.vertex f.vertex && ltb (number_of g.rule) (number_of f.rule)) ≡ true) → NoLater g.vertex g.rule f.vertex f.rule
    go (inl a) = inl (ltb-true g.vertex f.vertex a)
    go (inr a) =
        let both = and_parts (eqb g.vertex f.vertex) (ltb (number_of g.rule) (number_of f.rule)) a in
        let less = ltb-true (number_of g.rule) (number_of f.rule) both.1 in
        inr (eqb-true g.vertex f.vertex both.0, omega arith)

not_later : (f g : BrokenRule) → is_later f g ≡ false → NoLater f.vertex f.rule g.vertex g.rule
not_later f g h =
    let both = or_parts (ltb g.vertex f.vertex) (eqb g.vertex f.vertex && ltb (number_of g.rule) (number_of f.rule)) h in
    go (ltb-false g.vertex f.vertex both.0) (and_cases (eqb g.vertex f.vertex) (ltb (number_of g.rule) (number_of f.rule)) both.1) (cases_lt f.vertex g.vertex)
  where
    go : f.vertex ≤ g.vertex → (eqb g.vertex f.vertex ≡ false) ⊎ (ltb (number_of g.rule) (number_of f.rule) ≡ false) → (f.vertex < g.vertex) ⊎ (g.vertex ≤ f.vertex) → NoLater f.vertex f.rule g.vertex g.rule
    go le e (inl lt) = inl lt
    go le (inl ne) (inr ge) = absurd (eqb-false g.vertex f.vertex ne (omega arith))
    go le (inr x) (inr ge) = inr (omega arith, ltb-false (number_of g.rule) (number_of f.rule) x)

module _ (P Q : ℕ → Rule → Type 0) where
  both_first : (f g : BrokenRule) → IsFirstOf P (Some f) → IsFirstOf Q (Some g) → (is_later f g ≡ true) ⊎ (is_later f g ≡ false) → IsFirstOf (λ v r. P v r ⊎ Q v r) (cond (is_later f g) (Some g) (Some f))
  both_first f g a b (inl t) = rw (cond-true (is_later f g) (Some g) (Some f) t) (inr b.0, go)
    where
      go : (w : ℕ) (other : Rule) → P w other ⊎ Q w other → NoLater g.vertex g.rule w other
      go w other (inl p) = no_later_trans g f w other (later f g t) (a.1 w other p)
      go w other (inr q) = b.1 w other q
  both_first f g a b (inr t) = rw (cond-false (is_later f g) (Some g) (Some f) t) (inl a.0, go)
    where
      go : (w : ℕ) (other : Rule) → P w other ⊎ Q w other → NoLater f.vertex f.rule w other
      go w other (inl p) = a.1 w other p
      go w other (inr q) = no_later_trans f g w other (not_later f g t) (b.1 w other q)

  -- the earliest of two kinds of faults is the earlier of their earliest
  pub first_of_both : (a b : Option BrokenRule) → IsFirstOf P a → IsFirstOf Q b → IsFirstOf (λ v r. P v r ⊎ Q v r) (earlier_of a b)
  first_of_both None None x y = none
    where
      none : (v : ℕ) (r : Rule) → P v r ⊎ Q v r → ⊥
      none v r (inl p) = x v r p
      none v r (inr q) = y v r q
  first_of_both None (Some g) x y = (inr y.0, go)
    where
      go : (w : ℕ) (other : Rule) → P w other ⊎ Q w other → NoLater g.vertex g.rule w other
      go w other (inl p) = absurd (x w other p)
      go w other (inr q) = y.1 w other q
  first_of_both (Some f) None x y = (inl x.0, go)
    where
      go : (w : ℕ) (other : Rule) → P w other ⊎ Q w other → NoLater f.vertex f.rule w other
      go w other (inl p) = x.1 w other p
      go w other (inr q) = absurd (y w other q)
  first_of_both (Some f) (Some g) x y = both_first f g x y (cases_Bool (is_later f g))

-- the same faults under another name
pub first_same : (P Q : ℕ → Rule → Type 0) → ((v : ℕ) (r : Rule) → P v r → Q v r) → ((v : ℕ) (r : Rule) → Q v r → P v r) → (a : Option BrokenRule) → IsFirstOf P a → IsFirstOf Q a
first_same P Q there back None x = λ v r q. x v r (back v r q)
first_same P Q there back (Some f) x = (there f.vertex f.rule x.0, λ w other q. x.1 w other (back w other q))

-- the lowest rule that is broken at v is the first fault there
pub first_at : (v : ℕ) (P : Rule → Type 0) (rule : Rule) → IsBroken P (Some rule) → IsFirstOf (λ w r. (w ≡ v) × P r) (Some (record { vertex = v; rule = rule }))
first_at v P rule h = ((refl, h.0), λ w other p. inr (sym p.0, h.1 other p.1))

-- ## The faults that a reduction joins

-- a fault of the list
abbrev pub IsAmong : List (Option BrokenRule) → ℕ → Rule → Type 0
IsAmong zs v rule = Contains zs (Some (record { vertex = v; rule = rule }))

fault_of_some : (f : BrokenRule) (w : ℕ) (other : Rule) → Some f ≡ Some (record { vertex = w; rule = other }) → (f.vertex ≡ w) × (f.rule ≡ other)
fault_of_some f w other e = let same : f ≡ record { vertex = w; rule = other } = cc in (ap (λ x. x.vertex) same, ap (λ x. x.rule) same)

first_of_one : (x : Option BrokenRule) → IsFirstOf (IsAmong (x ∷ [])) x
first_of_one None = none
  where
    none : (v : ℕ) (rule : Rule) → IsAmong (None ∷ []) v rule → ⊥
    none v rule (zero, lt, e) = absurd (cc)
    none v rule (suc k, lt, e) = absurd (omega arith)
first_of_one (Some f) = ((0, omega arith, refl), least)
  where
    least : (w : ℕ) (other : Rule) → IsAmong (Some f ∷ []) w other → NoLater f.vertex f.rule w other
    least w other (zero, lt, e) = let same = fault_of_some f w other e in let n = ap number_of same.1 in inr (same.0, omega arith)
    least w other (suc k, lt, e) = absurd (omega arith)

start : (e : Option BrokenRule) → e ≡ None → IsFirstOf (IsAmong []) e
start e is = rw is (λ v rule c. absurd (omega (arith, c.1)))

join : (xs ys : List (Option BrokenRule)) (a b r : Option BrokenRule) → IsFirstOf (IsAmong xs) a → IsFirstOf (IsAmong ys) b → r ≡ earlier_of a b → IsFirstOf (IsAmong (xs ++ ys)) r
join xs ys a b r x y e =
    rw e (first_same (λ v q. IsAmong xs v q ⊎ IsAmong ys v q) (IsAmong (xs ++ ys)) there back (earlier_of a b) (first_of_both (IsAmong xs) (IsAmong ys) a b x y))
  where
    there : (v : ℕ) (q : Rule) → IsAmong xs v q ⊎ IsAmong ys v q → IsAmong (xs ++ ys) v q
    there v q (inl c) = Contains-append_left xs ys (Some (record { vertex = v; rule = q })) c
    there v q (inr c) = Contains-append_right xs ys (Some (record { vertex = v; rule = q })) c

    back : (v : ℕ) (q : Rule) → IsAmong (xs ++ ys) v q → IsAmong xs v q ⊎ IsAmong ys v q
    back v q c = Contains-append_cases xs ys (Some (record { vertex = v; rule = q })) c

more : (xs : List (Option BrokenRule)) (a x r : Option BrokenRule) → IsFirstOf (IsAmong xs) a → r ≡ earlier_of a x → IsFirstOf (IsAmong (xs ++ x ∷ [])) r
more xs a x r h e = join xs (x ∷ []) a x r h (first_of_one x) e

-- the first of the first faults of some things is the first of all their faults
module _ {X : Type 0} (F : X → ℕ → Rule → Type 0) where
  abbrev pub OfAny : List X → ℕ → Rule → Type 0
  OfAny xs v rule = (x : X) × Contains xs x × F x v rule

  -- a fault of the list is one of a thing's
  of_among : (xs : List X) (zs : List (Option BrokenRule)) → AllZip (λ x z. IsFirstOf (F x) z) xs zs → (v : ℕ) (rule : Rule) → IsAmong zs v rule → OfAny xs v rule
  of_among [] [] h v rule c = absurd (omega (arith, c.1))
  of_among [] (z ∷ zs) h v rule c = absurd h
  of_among (x ∷ xs) [] h v rule c = absurd h
  of_among (x ∷ xs) (z ∷ zs) h v rule (zero, lt, e) =
      let mine : IsFirstOf (F x) (Some (record { vertex = v; rule = rule })) = subst (IsFirstOf (F x)) e h.0 in
      (x, (0, omega arith, refl), mine.0)
  of_among (x ∷ xs) (z ∷ zs) h v rule (suc k, lt, e) =
      let r = of_among xs zs h.1 v rule (k, omega arith, e) in
      (r.0, (suc r.1.0, omega (arith, r.1.1), r.1.2), r.2)

  -- a thing's fault is no earlier than one of the list
  before_any : (xs : List X) (zs : List (Option BrokenRule)) → AllZip (λ x z. IsFirstOf (F x) z) xs zs → (w : ℕ) (other : Rule) → OfAny xs w other → (f : BrokenRule) × IsAmong zs f.vertex f.rule × NoLater f.vertex f.rule w other
  before_any [] zs h w other (x, c, b) = absurd (omega (arith, c.1))
  before_any (x ∷ xs) [] h w other o = absurd h
  before_any (x ∷ xs) (z ∷ zs) h w other (y, (zero, lt, is), b) = at z h.0 (subst (λ t. F t w other) (sym is) b)
    where
      at : (z : Option BrokenRule) → IsFirstOf (F x) z → F x w other → (f : BrokenRule) × IsAmong (z ∷ zs) f.vertex f.rule × NoLater f.vertex f.rule w other
      at None first b = absurd (first w other b)
      at (Some f) first b = (f, (0, omega arith, refl), first.1 w other b)
  before_any (x ∷ xs) (z ∷ zs) h w other (y, (suc k, lt, is), b) =
      let r = before_any xs zs h.1 w other (y, (k, omega arith, is), b) in
      (r.0, (suc r.1.0, omega (arith, r.1.1), r.1.2), r.2)

  first_of_all : (xs : List X) (zs : List (Option BrokenRule)) (r : Option BrokenRule) → AllZip (λ x z. IsFirstOf (F x) z) xs zs → IsFirstOf (IsAmong zs) r → IsFirstOf (OfAny xs) r
  first_of_all xs zs None h a = none
    where
      none : (v : ℕ) (rule : Rule) → OfAny xs v rule → ⊥
      none v rule o = let b = before_any xs zs h v rule o in a b.0.vertex b.0.rule b.1
  first_of_all xs zs (Some f) h a = (of_among xs zs h f.vertex f.rule a.0, least)
    where
      least : (w : ℕ) (other : Rule) → OfAny xs w other → NoLater f.vertex f.rule w other
      least w other o = let b = before_any xs zs h w other o in no_later_trans f b.0 w other (a.1 b.0.vertex b.0.rule b.1) b.2

  -- what a parallel reduction answers
  pub first_of_reduced : (xs : List X) (zs : List (Option BrokenRule)) (r : Option BrokenRule) → AllZip (λ x z. IsFirstOf (F x) z) xs zs → Reduces (λ e. e ≡ None) (λ a b r. r ≡ earlier_of a b) zs r → IsFirstOf (OfAny xs) r
  first_of_reduced xs zs r h done = first_of_all xs zs r h (Reduces-elim _ _ (λ zs r. IsFirstOf (IsAmong zs) r) start more join zs r done)
