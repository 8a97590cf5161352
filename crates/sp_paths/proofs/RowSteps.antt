-- The arcs of the rows are the arcs of the graph.
use Rattle.std.proofs.Common.{◌≡◌, ℕ, zero, suc, ◌<◌, ◌≤◌, ◌⊎◌, inl, inr, Bool, true, false, eqb, leb, ltb, List, [], ◌∷◌, sym, refl, ap, ◌∙◌, arith}
use Rattle.std.specs.Prelude.{Contains, filter}
use Rattle.std.proofs.lemmas.Bool.{cases_Bool, cond-true, cond-false, eq-eqb, eqb-true, le-leb, leb-true, lt-ltb, ltb-true}
use Rattle.std.proofs.lemmas.List.Elements.{All-contains}
use Rattle.sp_paths.specs.declared.arc.Arc.{Arc}
use Rattle.sp_paths.specs.Paths.{Graph, HasArc}
use Rattle.sp_paths.specs.Rows.{row_of, light_of, heavy_of, IsArcRelaxed, RowsHoldArcs, LightRowsRelaxed, HeavyRowsRelaxed}
use Rattle.sp_paths.proofs.Walks.{arc_in}

module _ (p : Arc → Bool) where
  -- what a filter keeps
  pub kept : (xs : List Arc) (a : Arc) → Contains (filter p xs) a → Contains xs a × (p a ≡ true)
  kept [] a c = absurd (omega (arith, c.1))
  kept (x ∷ xs) a c = go (cases_Bool (p x)) (kept xs a)
    where
      later : Contains xs a × (p a ≡ true) → Contains (x ∷ xs) a × (p a ≡ true)
      later h = ((suc h.0.0, omega (arith, h.0.1), h.0.2), h.1)

      at : p x ≡ true → (Contains (filter p xs) a → Contains xs a × (p a ≡ true)) → Contains (x ∷ filter p xs) a → Contains (x ∷ xs) a × (p a ≡ true)
      at t rest (zero, lt, e) = ((zero, omega arith, e), ap p (sym e) ∙ t)
      at t rest (suc k, lt, e) = later (rest (k, omega arith, e))

      go : (p x ≡ true) ⊎ (p x ≡ false) → (Contains (filter p xs) a → Contains xs a × (p a ≡ true)) → Contains (x ∷ xs) a × (p a ≡ true)
      go (inl t) rest = at t rest (rw (cond-true (p x) (x ∷ filter p xs) (filter p xs) t) at c)
      go (inr f) rest = later (rest (rw (cond-false (p x) (x ∷ filter p xs) (filter p xs) f) at c))

  keeps : (xs : List Arc) (a : Arc) → Contains xs a → p a ≡ true → Contains (filter p xs) a
  keeps [] a c t = absurd (omega (arith, c.1))
  keeps (x ∷ xs) a (zero, lt, e) t = rw (cond-true (p x) (x ∷ filter p xs) (filter p xs) (ap p e ∙ t)) (zero, omega arith, e)
  keeps (x ∷ xs) a (suc k, lt, e) t = go (cases_Bool (p x)) (keeps xs a (k, omega arith, e) t)
    where
      go : (p x ≡ true) ⊎ (p x ≡ false) → Contains (filter p xs) a → Contains (filter p (x ∷ xs)) a
      go (inl y) h = rw (cond-true (p x) (x ∷ filter p xs) (filter p xs) y) (suc h.0, omega (arith, h.1), h.2)
      go (inr n) h = rw (cond-false (p x) (x ∷ filter p xs) (filter p xs) n) h

-- an arc of a row is one of the graph, and leaves the row's vertex
pub in_row : (arcs : List Arc) (v : ℕ) (a : Arc) → Contains (row_of arcs v) a → Contains arcs a × (a.tail ≡ v)
in_row arcs v a c = let h = kept (λ x. eqb x.tail v) arcs a c in (h.0, eqb-true a.tail v h.1)

module _ (g : Graph) (u v l : ℕ) where
  abbrev arc : Arc
  arc = record { tail = u; head = v; len = l }

  row_there : HasArc g u v l → Contains (row_of g.arcs u) arc
  row_there a = keeps (λ x. eqb x.tail u) g.arcs arc a (eq-eqb u u refl)

  row_back : Contains (row_of g.arcs u) arc → HasArc g u v l
  row_back c = (kept (λ x. eqb x.tail u) g.arcs arc c).0

  light_there : (delta : ℕ) → HasArc g u v l → l ≤ delta → Contains (light_of g.arcs delta u) arc
  light_there delta a h = keeps (λ x. leb x.len delta) (row_of g.arcs u) arc (row_there a) (le-leb l delta h)

  light_back : (delta : ℕ) → Contains (light_of g.arcs delta u) arc → HasArc g u v l × (l ≤ delta)
  light_back delta c = let h = kept (λ x. leb x.len delta) (row_of g.arcs u) arc c in (row_back h.0, leb-true l delta h.1)

  heavy_there : (delta : ℕ) → HasArc g u v l → delta < l → Contains (heavy_of g.arcs delta u) arc
  heavy_there delta a h = keeps (λ x. ltb delta x.len) (row_of g.arcs u) arc (row_there a) (lt-ltb delta l h)

  heavy_back : (delta : ℕ) → Contains (heavy_of g.arcs delta u) arc → HasArc g u v l × (delta < l)
  heavy_back delta c = let h = kept (λ x. ltb delta x.len) (row_of g.arcs u) arc c in (row_back h.0, ltb-true delta l h.1)

pub rows_hold_arcs : RowsHoldArcs
rows_hold_arcs g delta = record {
  row = λ u v l. (row_there g u v l, row_back g u v l);
  light = λ u v l. (λ h. light_there g u v l delta h.0 h.1, light_back g u v l delta);
  heavy = λ u v l. (λ h. heavy_there g u v l delta h.0 h.1, heavy_back g u v l delta);
}

pub light_rows_relaxed : LightRowsRelaxed
light_rows_relaxed g max delta bound words gr rows u v l d p a short e below fits =
    All-contains (IsArcRelaxed max words d) (light_of g.arcs delta u) (arc g u v l) (rows u d p (arc_in g gr u v l a).0 e below) (light_there g u v l delta a short) fits

pub heavy_rows_relaxed : HeavyRowsRelaxed
heavy_rows_relaxed g max delta bound words gr rows u v l d p a long e below fits =
    All-contains (IsArcRelaxed max words d) (heavy_of g.arcs delta u) (arc g u v l) (rows u d p (arc_in g gr u v l a).0 e below) (heavy_there g u v l delta a long) fits
