-- Rows in places.
use Rattle.std.proofs.Common.{◌≡◌, ℕ, zero, suc, ◌+◌, ◌-◌, ◌*◌, ◌<◌, ◌≤◌, ◌⊎◌, inl, inr, List, [], ◌∷◌, ◌++◌, length, get_or, not, refl, sym, ap, ◌∙◌, subst, arith}
use Rattle.std.specs.Prelude.{All, IsTrue, nat_eq}
use Rattle.std.proofs.lemmas.Bool.{cases_lt, ne_eqb}
use Rattle.std.proofs.lemmas.List.{length-append, get_or_append_left, get_or-append-add}
use Rattle.std.proofs.lemmas.List.Elements.{All-head, All-tail, All-contains, Contains-get_or}
use Rattle.sp_paths.specs.declared.arc.Arc.{Arc}
use Rattle.sp_paths.specs.Paths.{IsArc}
use Rattle.sp_paths.specs.Rows.{row_of}
use Rattle.sp_paths.proofs.RowSteps.{in_row}
use Rattle.sp_graph.specs.declared.place.Place.{Place}
use Rattle.sp_graph.specs.declared.place.Few.{Few}
use Rattle.sp_graph.specs.Placed.{none, place_at, before, arcs_in, few_at, Leaves, KeepsRow, KeepsRows}

-- ## One row

-- what a place holds of an arc
abbrev held_of : Arc → Place
held_of a = record { head = a.head; len = a.len }

pub place_within : (row : List Arc) (k : ℕ) (e : Arc) → k < length row → held_of (get_or row k e) ≡ place_at row k
place_within [] k e low = absurd (omega (arith, low))
place_within (a ∷ row) zero e low = refl
place_within (a ∷ row) (suc k) e low = place_within row k e (omega (arith, low))

pub place_beyond : (row : List Arc) (k : ℕ) → length row ≤ k → none ≡ place_at row k
place_beyond [] k high = refl
place_beyond (a ∷ row) zero high = absurd (omega (arith, high))
place_beyond (a ∷ row) (suc k) high = place_beyond row k (omega (arith, high))

-- an arc that a place holds, before those behind it
front : (v t h l : ℕ) (xs ys : List Arc) → t ≡ v → 1 ≤ l → xs ≡ ys → before v h l xs ≡ record { tail = t; head = h; len = l } ∷ ys
front v t h zero xs ys same some rest = absurd (omega (arith, some))
front v t h (suc l) xs ys same some rest = ap (λ zs. record { tail = v; head = h; len = suc l } ∷ zs) rest ∙ ap (λ u. record { tail = u; head = h; len = suc l } ∷ ys) (sym same)

-- the places of a short row
abbrev few_row : List Arc → Few
few_row row = record { first = place_at row 0; second = place_at row 1; third = place_at row 2; fourth = place_at row 3 }

module _ (n v : ℕ) where
  step : (a : Arc) (row xs : List Arc) → All (IsArc n) (a ∷ row) → All (Leaves v) (a ∷ row) → xs ≡ row → before v a.head a.len xs ≡ a ∷ row
  step a row xs arcs tails rest = front v a.tail a.head a.len xs row (All-head (Leaves v) a row tails) (All-head (IsArc n) a row arcs).2 rest

  all_held : (row : List Arc) → length row ≤ 4 → All (IsArc n) row → All (Leaves v) row → arcs_in v (few_row row) ≡ row
  all_held [] short arcs tails = refl
  all_held (a ∷ []) short arcs tails = step a [] [] arcs tails refl
  all_held (a ∷ b ∷ []) short arcs tails =
      step a (b ∷ []) _ arcs tails (step b [] [] (All-tail (IsArc n) a (b ∷ []) arcs) (All-tail (Leaves v) a (b ∷ []) tails) refl)
  all_held (a ∷ b ∷ c ∷ []) short arcs tails =
      let arcs-2 = All-tail (IsArc n) a (b ∷ c ∷ []) arcs in
      let tails-2 = All-tail (Leaves v) a (b ∷ c ∷ []) tails in
      step a (b ∷ c ∷ []) _ arcs tails (step b (c ∷ []) _ arcs-2 tails-2 (step c [] [] (All-tail (IsArc n) b (c ∷ []) arcs-2) (All-tail (Leaves v) b (c ∷ []) tails-2) refl))
  all_held (a ∷ b ∷ c ∷ d ∷ []) short arcs tails =
      let arcs-2 = All-tail (IsArc n) a (b ∷ c ∷ d ∷ []) arcs in
      let tails-2 = All-tail (Leaves v) a (b ∷ c ∷ d ∷ []) tails in
      let arcs-3 = All-tail (IsArc n) b (c ∷ d ∷ []) arcs-2 in
      let tails-3 = All-tail (Leaves v) b (c ∷ d ∷ []) tails-2 in
      step a (b ∷ c ∷ d ∷ []) _ arcs tails (step b (c ∷ d ∷ []) _ arcs-2 tails-2 (step c (d ∷ []) _ arcs-3 tails-3
      (step d [] [] (All-tail (IsArc n) c (d ∷ []) arcs-3) (All-tail (Leaves v) c (d ∷ []) tails-3) refl)))
  all_held (a ∷ b ∷ c ∷ d ∷ e ∷ more) short arcs tails = absurd (omega (arith, short))

  -- a row has arcs if its first place has a head
  some_held : (row : List Arc) (few : Few) → All (IsArc n) row → few.first.head ≡ (place_at row 0).head → (0 < few.first.head → 0 < length row) × (0 < length row → 0 < few.first.head)
  some_held [] few arcs is = (λ some. absurd (omega (arith, some, is)), λ some. absurd (omega (arith, some)))
  some_held (a ∷ row) few arcs is = (λ some. omega arith, λ some. let head : 1 ≤ a.head = (All-head (IsArc n) a row arcs).1.0 in omega (arith, head, is))

  pub keeps_short : (row : List Arc) (few : Few) → length row ≤ 4 → All (IsArc n) row → All (Leaves v) row → few ≡ few_row row → KeepsRow v few row
  keeps_short row few short arcs tails is = record {
    some = some_held row few arcs (ap (λ f. f.first.head) is);
    all = λ some. rw is (all_held row short arcs tails);
  }

  pub keeps_long : (row : List Arc) (few : Few) → All (IsArc n) row → few.first.head ≡ (place_at row 0).head → few.first.len ≡ 0 → KeepsRow v few row
  keeps_long row few arcs is empty = record {
    some = some_held row few arcs is;
    all = λ some. absurd (omega (arith, some, empty));
  }

-- all arcs of a row leave its vertex
pub row_leaves : (v : ℕ) (arcs : List Arc) → All (Leaves v) (row_of arcs v)
row_leaves v arcs = λ k d low. (in_row arcs v _ (Contains-get_or (row_of arcs v) k d low)).1

-- what holds of all arcs holds of a row's
pub row_all : (n v : ℕ) (arcs : List Arc) → All (IsArc n) arcs → All (IsArc n) (row_of arcs v)
row_all n v arcs held = λ k d low. All-contains (IsArc n) arcs _ held (in_row arcs v _ (Contains-get_or (row_of arcs v) k d low)).0

-- ## Row after row

pub keeps_none : (arcs : List Arc) (places : List Place) → length places ≡ 2 → KeepsRows 0 arcs places
keeps_none arcs places size = record { size = size; rows = λ v d some few. absurd (omega (arith, some, few)) }

module _ (count : ℕ) (arcs : List Arc) (places : List Place) (few : Few) (h : KeepsRows count arcs places) where
  abbrev four : List Place
  four = few.first ∷ few.second ∷ few.third ∷ few.fourth ∷ []

  earlier : (k : ℕ) (d : Place) → k < length places → get_or (places ++ four) k d ≡ get_or places k d
  earlier k d low = get_or_append_left places four d k low

  new : (i k : ℕ) (d : Place) → k ≡ length places + i → get_or (places ++ four) k d ≡ get_or four i d
  new i k d is = ap (λ j. get_or (places ++ four) j d) is ∙ get_or-append-add places four i d

  same : (v : ℕ) (d : Place) → 1 ≤ v → v ≤ count → few_at (places ++ four) v d ≡ few_at places v d
  same v d some low =
      rw (earlier (4 * v - 2) d (omega (arith, h.size, some, low)), earlier (4 * v - 1) d (omega (arith, h.size, some, low)), earlier (4 * v) d (omega (arith, h.size, low)), earlier (4 * v + 1) d (omega (arith, h.size, low))) refl

  last : (v : ℕ) (d : Place) → v ≡ count + 1 → few_at (places ++ four) v d ≡ few
  last v d is = rw (new 0 (4 * v - 2) d (omega (arith, h.size, is)), new 1 (4 * v - 1) d (omega (arith, h.size, is)), new 2 (4 * v) d (omega (arith, h.size, is)), new 3 (4 * v + 1) d (omega (arith, h.size, is))) refl

  pub keeps_more : KeepsRow (count + 1) few (row_of arcs (count + 1)) → KeepsRows (count + 1) arcs (places ++ four)
  keeps_more own = record {
    size = omega (arith, length-append places four, h.size);
    rows = λ v d some low. go v d some low (cases_lt count v);
  }
    where
      go : (v : ℕ) (d : Place) → 1 ≤ v → v ≤ count + 1 → (count < v) ⊎ (v ≤ count) → KeepsRow v (few_at (places ++ four) v d) (row_of arcs v)
      go v d some low (inl above) =
          let is : v ≡ count + 1 = omega (arith, low, above) in
          subst (λ f. KeepsRow v f (row_of arcs v)) (sym (last v d is)) (subst (λ u. KeepsRow u few (row_of arcs u)) (sym is) own)
      go v d some low (inr below) = subst (λ f. KeepsRow v f (row_of arcs v)) (sym (same v d some below)) (h.rows v d some below)

-- ## A row that is kept

-- whether the first place has a head tells whether the row has arcs
pub told : (v : ℕ) (few : Few) (row : List Arc) → KeepsRow v few row → (IsTrue (not (nat_eq few.first.head 0)) → 0 < length row) × (0 < length row → IsTrue (not (nat_eq few.first.head 0)))
told v few row h = (λ is. go-1 (cases_lt 0 few.first.head) is, λ some. go-2 (h.some.1 some))
  where
    go-1 : (0 < few.first.head) ⊎ (few.first.head ≤ 0) → IsTrue (not (nat_eq few.first.head 0)) → 0 < length row
    go-1 (inl above) is = h.some.0 above
    go-1 (inr low) is = let empty : few.first.head ≡ 0 = omega (arith, low) in let no : IsTrue (not (nat_eq 0 0)) = rw empty at is in cc

    go-2 : 0 < few.first.head → IsTrue (not (nat_eq few.first.head 0))
    go-2 above = ap not (ne_eqb few.first.head 0 (λ is. absurd (omega (arith, above, is))))
