-- A route is a walk of the least length, and distances rise along it.
use Rattle.std.proofs.Common.{◌≡◌, ℕ, zero, suc, ◌+◌, ◌<◌, ◌≤◌, List, [], ◌∷◌, length, refl, sym, ap, ◌∙◌, subst, arith}
use Rattle.std.specs.Prelude.{Contains, All, map, slice_index_or}
use Rattle.std.proofs.lemmas.List.Elements.{All-nil, All-cons}
use Rattle.std.proofs.lemmas.List.Sums.{sum_by-cons}
use Rattle.sp_paths.specs.declared.arc.Arc.{Arc}
use Rattle.sp_paths.specs.Paths.{Graph, IsGraph, IsLeast, LeadsTo, walk_length}
use Rattle.sp_paths.proofs.Walks.{arc_in, walk_none, least_same}
use Rattle.sp_paths.specs.Routes.{IsBefore, GoesOn}
use Rattle.sp_paths.specs.RouteLaws.{RoutesAreWalks, RoutesRise}

pub source_least : (g : Graph) (s : ℕ) → IsLeast g s s 0
source_least g s = record { walk = walk_none g s; least = λ e w. omega arith }

-- ## Walks

-- Arcs that lead on from u, at a distance c, along these vertices to t at a distance d.
abbrev GoesBy : (g : Graph) (u c t d : ℕ) (rest : List ℕ) (more : List Arc) → Type 0
GoesBy g u c t d rest more = All (λ a. Contains g.arcs a) more × LeadsTo more u t × (c + walk_length more ≡ d) × (rest ≡ map (λ a. a.head) more)

module _ (g : Graph) (s : ℕ) where
  walk_on : (u c t d : ℕ) (rest : List ℕ) → IsLeast g s u c → GoesOn g s u rest t → IsLeast g s t d → (more : List Arc) × GoesBy g u c t d rest more
  walk_on u c t d [] here same there = ([], (All-nil (λ a. Contains g.arcs a), same, omega (arith, least_same g s t c d (subst (λ x. IsLeast g s x c) same here) there), refl))
  walk_on u c t d (v ∷ rest) here ((other, e, pair), on) there =
      let (b, l, before, a, sum) = pair.before in
      let arc : Arc = record { tail = u; head = v; len = l } in
      let (more, (arcs, leads, whole, heads)) = walk_on v e t d rest pair.least on there in
      let longer : walk_length (arc ∷ more) ≡ l + walk_length more = sum_by-cons (λ x. x.len) arc more in
      let start : b ≡ c = least_same g s u b c before here in (
        arc ∷ more,
        (
          All-cons (λ x. Contains g.arcs x) arc more a arcs,
          (refl, leads),
          omega (arith, longer, start, sum, whole),
          ap (λ r. v ∷ r) heads,
        ),
      )

pub routes_are_walks : RoutesAreWalks
routes_are_walks g s t d [] is there = absurd is
routes_are_walks g s t d (u ∷ rest) (own, on) there =
    let (more, (arcs, leads, whole, heads)) = walk_on g s s 0 t d rest (source_least g s) (subst (λ x. GoesOn g s x rest t) own on) there in
    (more, record { walk_there = record { of_arcs = arcs; leads = leads }; dist = omega (arith, whole); vertices = ap (λ x. x ∷ rest) own ∙ ap (λ r. s ∷ r) heads })

-- ## Rising distances

module _ (g : Graph) (gr : IsGraph g) (s t : ℕ) where
  farther : (u c v : ℕ) → IsLeast g s u c → IsBefore g s u v → (d : ℕ) × IsLeast g s v d × (c < d)
  farther u c v here (other, d, pair) =
      let (b, l, before, a, sum) = pair.before in
      let long : 1 ≤ l = (arc_in g gr u v l a).2 in
      (d, pair.least, omega (arith, least_same g s u b c before here))

  all_farther : (u c : ℕ) (rest : List ℕ) → IsLeast g s u c → GoesOn g s u rest t → (k : ℕ) → k < length rest → (d : ℕ) × IsLeast g s (slice_index_or rest k 0) d × (c < d)
  all_farther u c [] here on k few = absurd (omega (arith, few))
  all_farther u c (v ∷ rest) here (before, on) zero few = farther u c v here before
  all_farther u c (v ∷ rest) here (before, on) (suc k) few =
      let (e, there, far) = farther u c v here before in
      let (d, least, farther') = all_farther v e rest there on k (omega (arith, few)) in
      (d, least, omega arith)

  abbrev Apart : (u : ℕ) (rest : List ℕ) (i j : ℕ) → Type 0
  Apart u rest i j = slice_index_or (u ∷ rest) i 0 ≡ slice_index_or (u ∷ rest) j 0 → ⊥

  apart_first : (u c : ℕ) (rest : List ℕ) → IsLeast g s u c → GoesOn g s u rest t → (j : ℕ) → j < length rest → Apart u rest zero (suc j)
  apart_first u c rest here on j few same =
      let (d, least, far) = all_farther u c rest here on j few in
      let both : c ≡ d = least_same g s (slice_index_or rest j 0) c d (subst (λ x. IsLeast g s x c) same here) least in
      absurd (omega arith)

  apart : (u c : ℕ) (rest : List ℕ) → IsLeast g s u c → GoesOn g s u rest t → (i j : ℕ) → i < j → j < length (u ∷ rest) → Apart u rest i j
  apart u c [] here on i j less few same = absurd (omega (arith, less, few))
  apart u c (v ∷ rest) here on i zero less few same = absurd (omega (arith, less))
  apart u c (v ∷ rest) here on zero (suc j) less few same = apart_first u c (v ∷ rest) here on j (omega (arith, few)) same
  apart u c (v ∷ rest) here on (suc i) (suc j) less few same =
      let (e, there, far) = farther u c v here on.0 in
      apart v e rest there on.1 i j (omega (arith, less)) (omega (arith, few)) same

pub routes_rise : RoutesRise
routes_rise g s t [] gr is i j less few = absurd is
routes_rise g s t (u ∷ rest) gr (own, on) i j less few =
    λ same. apart g gr s t u 0 rest (subst (λ x. IsLeast g s x 0) (sym own) (source_least g s)) on i j less few same
