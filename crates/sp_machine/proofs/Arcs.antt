-- The arcs that the items of a programme relax.
use Rattle.std.proofs.Common.{◌≡◌, ℕ, zero, suc, ◌+◌, ◌-◌, List, [], ◌∷◌, get_or, Option, Some, None, refl, sym, subst, arith}
use Rattle.std.specs.List.{filter_map, flat_map, cons_option}
use Rattle.std.specs.Prelude.{All, Contains, slice_get}
use Rattle.std.proofs.lemmas.List.{get_or_default}
use Rattle.std.proofs.lemmas.List.Elements.{All-nil, All-cons, All-head, All-tail, All-append, Contains-append_left, Contains-append_right}
use Rattle.std.proofs.lemmas.Option.{same_Some, slice_get_within, slice_get-get_or, get_or_from_slice_get}
use Rattle.sp_paths.specs.declared.arc.Arc.{Arc}
use Rattle.sp_paths.specs.Paths.{IsGraph}
use Rattle.sp_machine.specs.declared.item.Item.{Item}
use Rattle.sp_machine.specs.declared.item.Item.TheVariants.{Offer, Read, Relax}
use Rattle.sp_machine.specs.Programme.{Programme, IsProgramme, IsItem}
use Rattle.sp_machine.specs.Relaxing.{arc_of, graph_of}

-- the arcs of rows
abbrev arcs_of : {P : ℕ} → List (List (Item P)) → List Arc
arcs_of rows = flat_map (λ row. filter_map arc_of row) rows

cons_contains : (o : Option Arc) (xs : List Arc) (x : Arc) → Contains xs x → Contains (cons_option o xs) x
cons_contains None xs x has = has
cons_contains (Some y) xs x has = Contains-append_right (y ∷ []) xs x has

-- a relaxation's arc is among those of its row
arc_of_row : {P : ℕ} (row : List (Item P)) (k u v l : ℕ) → slice_get row k ≡ Some (Relax u v l) → Contains (filter_map arc_of row) (record { tail = u; head = v; len = l })
arc_of_row [] k u v l is = cc
arc_of_row {P} (item ∷ row) zero u v l is =
    let same : item ≡ Relax u v l = same_Some item (Relax u v l) is in
    let arc : Arc = record { tail = u; head = v; len = l } in
    subst (λ (i : Item P). Contains (filter_map arc_of (i ∷ row)) arc) (sym same) (0, omega arith, refl)
arc_of_row (item ∷ row) (suc k) u v l is = cons_contains (arc_of item) (filter_map arc_of row) (record { tail = u; head = v; len = l }) (arc_of_row row k u v l is)

-- and among those of all rows
pub arc_of_rows : {P : ℕ} (rows : List (List (Item P))) (i k u v l : ℕ) → slice_get (get_or rows i []) k ≡ Some (Relax u v l) → Contains (arcs_of rows) (record { tail = u; head = v; len = l })
arc_of_rows [] i k u v l is = cc
arc_of_rows (row ∷ rows) zero k u v l is = Contains-append_left (filter_map arc_of row) (arcs_of rows) (record { tail = u; head = v; len = l }) (arc_of_row row k u v l is)
arc_of_rows (row ∷ rows) (suc i) k u v l is = Contains-append_right (filter_map arc_of row) (arcs_of rows) (record { tail = u; head = v; len = l }) (arc_of_rows rows i k u v l is)

module _ {P : ℕ} (F : Item P → Type 0) where
  -- what holds of the relaxation of an arc
  abbrev OfArc : Arc → Type 0
  OfArc a = F (Relax a.tail a.head a.len)

  row_arcs_all : (row : List (Item P)) → All F row → All OfArc (filter_map arc_of row)
  row_arcs_all [] all = All-nil OfArc
  row_arcs_all (Offer v w ∷ row) all = row_arcs_all row (All-tail F (Offer v w) row all)
  row_arcs_all (Read v ∷ row) all = row_arcs_all row (All-tail F (Read v) row all)
  row_arcs_all (Relax u v l ∷ row) all = All-cons OfArc (record { tail = u; head = v; len = l }) (filter_map arc_of row) (All-head F (Relax u v l) row all) (row_arcs_all row (All-tail F (Relax u v l) row all))

  -- what holds of each item holds of the relaxation of each arc
  pub arcs_all : (rows : List (List (Item P))) → All (λ row. All F row) rows → All OfArc (arcs_of rows)
  arcs_all [] all = All-nil OfArc
  arcs_all (row ∷ rows) all =
      All-append OfArc (filter_map arc_of row) (arcs_of rows) (row_arcs_all row (All-head (λ row. All F row) row rows all)) (arcs_all rows (All-tail (λ row. All F row) row rows all))

  -- what holds of each item holds of that of an actor
  pub item_has : (rows : List (List (Item P))) → All (λ row. All F row) rows → (i k : ℕ) (item : Item P) → slice_get (get_or rows i []) k ≡ Some item → F item
  item_has [] all i k item is = cc
  item_has (row ∷ rows) all zero k item is = subst F (get_or_from_slice_get row k item item is) (All-head (λ row. All F row) row rows all k item (slice_get_within row k item is))
  item_has (row ∷ rows) all (suc i) k item is = item_has rows (All-tail (λ row. All F row) row rows all) i k item is

-- the items of a programme
items_all : {P : ℕ} (p : Programme P) → IsProgramme p → All (λ row. All (IsItem p.words) row) p.rows
items_all {P} p is i d inside k e within = is.items (i + 1) k (get_or (get_or p.rows i d) k e) there
  where
    same : get_or p.rows (i + 1 - 1) [] ≡ get_or p.rows i d
    same = let place : i + 1 - 1 ≡ i = omega arith in rw place (get_or_default p.rows i [] d inside)

    there : slice_get (get_or p.rows (i + 1 - 1) []) k ≡ Some (get_or (get_or p.rows i d) k e)
    there = rw same (slice_get-get_or (get_or p.rows i d) k e within)

-- a programme's arcs are those of a graph
pub programme_graph : {P : ℕ} (p : Programme P) → IsProgramme p → IsGraph (graph_of p)
programme_graph p is = arcs_all (IsItem p.words) p.rows (items_all p is)
