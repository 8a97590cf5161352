-- How the light and heavy arcs of the rows lie one after another.
use Rattle.std.proofs.Common.{◌≡◌, ℕ, zero, suc, ◌+◌, ◌-◌, ◌<◌, ◌≤◌, ◌⊎◌, inl, inr, not, eqb, leb, ltb, List, [], ◌∷◌, ◌++◌, length, get_or, take, drop, refl, sym, ap, subst, ◌∙◌, arith, length-append, append_assoc}
use Rattle.std.specs.Prelude.{All, filter, sum_by}
use Rattle.std.proofs.lemmas.Bool.{cases_order, cases_lt, cond-true, cond-false, lt-leb, le-leb, eq-eqb, ne_eqb}
use Rattle.std.proofs.lemmas.Bool.Decides.{nat_tests}
use Rattle.std.proofs.lemmas.List.{append-nil, drop_at, take_at, get_or_default, get_or_push, get_or_append_left, length_push}
use Rattle.std.proofs.lemmas.List.Sums.{sum_by-cons, sum_by-append}
use Rattle.std.proofs.lemmas.List.Filters.{sum_by-filter_both}
use Rattle.sp_paths.specs.declared.arc.Arc.{Arc}
use Rattle.sp_paths.specs.Paths.{Graph, IsVertex, IsArc, IsGraph}
use Rattle.sp_paths.specs.Rows.{row_of, light_of, heavy_of}
use Rattle.sp_graph.specs.Order.{IsInOrder, in_order}
use Rattle.sp_graph.specs.Split.{laid_out, light_place, heavy_place, CutsRows, IsSplit}
use Rattle.sp_graph.specs.declared.rows.Cut.{Cut}
use Rattle.sp_graph.proofs.Orders.{order_of}

-- ## What is laid out weighs what the graph does

-- the arcs with a tail of at most v
abbrev arcs_to : List Arc → ℕ → List Arc
arcs_to xs v = filter (λ a. leb a.tail v) xs

not_light : (l delta : ℕ) → ltb delta l ≡ not (leb l delta)
not_light l delta = grind (arith, nat_tests)

module _ (f : Arc → ℕ) where
  to_yes : (x : Arc) (xs : List Arc) (v : ℕ) → x.tail ≤ v → sum_by f (arcs_to (x ∷ xs) v) ≡ f x + sum_by f (arcs_to xs v)
  to_yes x xs v h = rw (cond-true (leb x.tail v) (x ∷ arcs_to xs v) (arcs_to xs v) (le-leb x.tail v h)) (sum_by-cons f x (arcs_to xs v))

  to_no : (x : Arc) (xs : List Arc) (v : ℕ) → v < x.tail → sum_by f (arcs_to (x ∷ xs) v) ≡ sum_by f (arcs_to xs v)
  to_no x xs v h = rw (cond-false (leb x.tail v) (x ∷ arcs_to xs v) (arcs_to xs v) (lt-leb x.tail v h)) refl

  at_yes : (x : Arc) (xs : List Arc) (v : ℕ) → x.tail ≡ v → sum_by f (row_of (x ∷ xs) v) ≡ f x + sum_by f (row_of xs v)
  at_yes x xs v h = rw (cond-true (eqb x.tail v) (x ∷ row_of xs v) (row_of xs v) (eq-eqb x.tail v h)) (sum_by-cons f x (row_of xs v))

  at_no : (x : Arc) (xs : List Arc) (v : ℕ) → (x.tail ≡ v → ⊥) → sum_by f (row_of (x ∷ xs) v) ≡ sum_by f (row_of xs v)
  at_no x xs v h = rw (cond-false (eqb x.tail v) (x ∷ row_of xs v) (row_of xs v) (ne_eqb x.tail v h)) refl

  weigh_more : (xs : List Arc) (u v : ℕ) → v ≡ u + 1 → sum_by f (arcs_to xs v) ≡ sum_by f (arcs_to xs u) + sum_by f (row_of xs v)
  weigh_more [] u v e = refl
  weigh_more (x ∷ xs) u v e = go (cases_order x.tail v) (weigh_more xs u v e)
    where
      go : (x.tail ≡ v) ⊎ ((x.tail < v) ⊎ (v < x.tail)) → sum_by f (arcs_to xs v) ≡ sum_by f (arcs_to xs u) + sum_by f (row_of xs v) → sum_by f (arcs_to (x ∷ xs) v) ≡ sum_by f (arcs_to (x ∷ xs) u) + sum_by f (row_of (x ∷ xs) v)
      go (inl h) rest = omega (arith, to_yes x xs v (omega arith), to_no x xs u (omega arith), at_yes x xs v h, rest)
      go (inr (inl h)) rest = omega (arith, to_yes x xs v (omega arith), to_yes x xs u (omega arith), at_no x xs v (λ k. omega arith), rest)
      go (inr (inr h)) rest = omega (arith, to_no x xs v h, to_no x xs u (omega arith), at_no x xs v (λ k. omega arith), rest)

  weigh_none : (n : ℕ) (xs : List Arc) → All (IsArc n) xs → sum_by f (arcs_to xs 0) ≡ 0
  weigh_none n [] h = refl
  weigh_none n (x ∷ xs) h = let is : IsArc n x = h 0 x (omega arith) in omega (arith, to_no x xs 0 (omega (arith, is.0.0)), weigh_none n xs (λ k d lt. h (suc k) d (omega arith)))

  weigh_all : (n : ℕ) (xs : List Arc) → All (IsArc n) xs → sum_by f (arcs_to xs n) ≡ sum_by f xs
  weigh_all n [] h = refl
  weigh_all n (x ∷ xs) h = let is : IsArc n x = h 0 x (omega arith) in omega (arith, to_yes x xs n is.0.1, weigh_all n xs (λ k d lt. h (suc k) d (omega arith)), sum_by-cons f x xs)

  weigh_row : (arcs : List Arc) (delta v : ℕ) → sum_by f (light_of arcs delta v ++ heavy_of arcs delta v) ≡ sum_by f (row_of arcs v)
  weigh_row arcs delta v =
      let parts = sum_by-filter_both (λ a. leb a.len delta) (λ a. ltb delta a.len) (λ a. not_light a.len delta) f (row_of arcs v) in
      omega (arith, parts, sum_by-append f (light_of arcs delta v) (heavy_of arcs delta v))

  weigh_laid : (n : ℕ) (arcs : List Arc) (delta : ℕ) → All (IsArc n) arcs → (v : ℕ) → sum_by f (laid_out arcs delta v) ≡ sum_by f (arcs_to arcs v)
  unfolding laid_out
  weigh_laid n arcs delta h zero = sym (weigh_none n arcs h)
  weigh_laid n arcs delta h (suc v) =
      let next : suc v ≡ v + 1 = omega arith in
      rw next (omega (arith, weigh_laid n arcs delta h v, sum_by-append f (laid_out arcs delta v) (light_of arcs delta (v + 1) ++ heavy_of arcs delta (v + 1)), weigh_row arcs delta (v + 1), weigh_more arcs v (v + 1) refl))

-- what is laid out has the graph's arcs for its order
pub order_laid : (g : Graph) (delta : ℕ) → IsGraph g → IsInOrder g.arcs → in_order (laid_out g.arcs delta g.n) ≡ g.arcs
order_laid g delta h order = order_of (laid_out g.arcs delta g.n) g.arcs order (λ f. weigh_laid f g.n g.arcs delta h g.n ∙ weigh_all f g.n g.arcs h)

-- ## The cuts

pub laid_more : (arcs : List Arc) (delta v : ℕ) → laid_out arcs delta (v + 1) ≡ laid_out arcs delta v ++ (light_of arcs delta (v + 1) ++ heavy_of arcs delta (v + 1))
unfolding laid_out
laid_more arcs delta v = let next : v + 1 ≡ suc v = omega arith in ap (laid_out arcs delta) next

rest_of : (arcs : List Arc) (delta v j : ℕ) → (rest : List Arc) × (laid_out arcs delta (v + j) ≡ laid_out arcs delta v ++ rest)
rest_of arcs delta v zero = let same : v + zero ≡ v = omega arith in ([], rw same (sym (append-nil (laid_out arcs delta v))))
rest_of arcs delta v (suc j) = go (rest_of arcs delta v j)
  where
    row : List Arc
    row = light_of arcs delta ((v + j) + 1) ++ heavy_of arcs delta ((v + j) + 1)

    go : (rest : List Arc) × (laid_out arcs delta (v + j) ≡ laid_out arcs delta v ++ rest) → (rest : List Arc) × (laid_out arcs delta (v + suc j) ≡ laid_out arcs delta v ++ rest)
    go (rest, e) = let next : v + suc j ≡ (v + j) + 1 = omega arith in (rest ++ row, rw next (laid_more arcs delta (v + j) ∙ ap (λ l. l ++ row) e ∙ append_assoc (laid_out arcs delta v) rest row))

-- the part between two others
part : (pre mid post : List Arc) → take (length (pre ++ mid) - length pre) (drop (length pre) (pre ++ (mid ++ post))) ≡ mid
part pre mid post =
    let long : length (pre ++ mid) - length pre ≡ length mid = omega (arith, length-append pre mid) in
    rw (long, drop_at pre (mid ++ post) (length pre) refl) (take_at mid post (length mid) refl)

-- the light arcs of v lie between its two cuts, and its heavy ones between its second and the next vertex's first
pub record IsPart (arcs row : List Arc) (low high : ℕ) : Type 0 where
  pub rising : low ≤ high
  pub within : high ≤ length arcs
  pub part : take (high - low) (drop low arcs) ≡ row

at_part : (arcs row pre mid post : List Arc) (low high : ℕ) → arcs ≡ pre ++ (mid ++ post) → low ≡ length pre → high ≡ length (pre ++ mid) → mid ≡ row → IsPart arcs row low high
at_part arcs row pre mid post low high all from to is = record {
  rising = omega (arith, from, to, length-append pre mid);
  within = rw (all, to) (omega (arith, length-append pre mid, length-append pre (mid ++ post), length-append mid post));
  part = rw (all, from, to) (part pre mid post ∙ is);
}

laid_round : (arcs : List Arc) (delta n v : ℕ) → v < n → (rest : List Arc) × (laid_out arcs delta n ≡ (laid_out arcs delta v ++ (light_of arcs delta (v + 1) ++ heavy_of arcs delta (v + 1))) ++ rest)
laid_round arcs delta n v lt = go (rest_of arcs delta (v + 1) (n - (v + 1)))
  where
    go : (rest : List Arc) × (laid_out arcs delta ((v + 1) + (n - (v + 1))) ≡ laid_out arcs delta (v + 1) ++ rest) → (rest : List Arc) × (laid_out arcs delta n ≡ (laid_out arcs delta v ++ (light_of arcs delta (v + 1) ++ heavy_of arcs delta (v + 1))) ++ rest)
    go (rest, e) = let all : n ≡ (v + 1) + (n - (v + 1)) = omega arith in (rest, ap (laid_out arcs delta) all ∙ e ∙ ap (λ l. l ++ rest) (laid_more arcs delta v))

module _ (n : ℕ) (arcs : List Arc) (delta : ℕ) (kept : List Arc) (cuts : List Cut) (d : Cut) (h : IsSplit n arcs delta kept cuts) where
  light_from : (v : ℕ) → v < n → IsPart kept (light_of arcs delta (v + 1)) (get_or cuts v d).light (get_or cuts v d).heavy
  light_from v lt = go (laid_round arcs delta n v lt)
    where
      pre : List Arc
      pre = laid_out arcs delta v

      light : List Arc
      light = light_of arcs delta (v + 1)

      heavy : List Arc
      heavy = heavy_of arcs delta (v + 1)

      go : (rest : List Arc) × (laid_out arcs delta n ≡ (pre ++ (light ++ heavy)) ++ rest) → IsPart kept light (get_or cuts v d).light (get_or cuts v d).heavy
      go (rest, e) =
          at_part kept light pre light (heavy ++ rest) _ _ (h.laid ∙ e ∙ append_assoc pre (light ++ heavy) rest ∙ ap (λ l. pre ++ l) (append_assoc light heavy rest)) (h.light v d (omega arith)) (h.heavy v d lt) refl

  heavy_from : (v : ℕ) → v < n → IsPart kept (heavy_of arcs delta (v + 1)) (get_or cuts v d).heavy (get_or cuts (v + 1) d).light
  heavy_from v lt = go (laid_round arcs delta n v lt)
    where
      pre : List Arc
      pre = laid_out arcs delta v

      light : List Arc
      light = light_of arcs delta (v + 1)

      heavy : List Arc
      heavy = heavy_of arcs delta (v + 1)

      go : (rest : List Arc) × (laid_out arcs delta n ≡ (pre ++ (light ++ heavy)) ++ rest) → IsPart kept heavy (get_or cuts v d).heavy (get_or cuts (v + 1) d).light
      go (rest, e) =
          at_part kept heavy (pre ++ light) heavy rest _ _ (h.laid ∙ e ∙ ap (λ l. l ++ rest) (sym (append_assoc pre light heavy)) ∙ append_assoc (pre ++ light) heavy rest) (h.heavy v d lt) (h.light (v + 1) d (omega arith) ∙ ap length (laid_more arcs delta v ∙ sym (append_assoc pre light heavy))) refl

  -- by the number of the vertex
  pub light_at : (v : ℕ) → 1 ≤ v → v ≤ n → IsPart kept (light_of arcs delta v) (get_or cuts (v - 1) d).light (get_or cuts (v - 1) d).heavy
  light_at v ge le = let same : (v - 1) + 1 ≡ v = omega arith in rw same at (light_from (v - 1) (omega arith))

  pub heavy_at : (v : ℕ) → 1 ≤ v → v ≤ n → IsPart kept (heavy_of arcs delta v) (get_or cuts (v - 1) d).heavy (get_or cuts v d).light
  heavy_at v ge le = let same : (v - 1) + 1 ≡ v = omega arith in rw same at (heavy_from (v - 1) (omega arith))

-- the same by the cuts that were read
pub light_read : (n : ℕ) (arcs : List Arc) (delta : ℕ) (kept : List Arc) (cuts : List Cut) (v : ℕ) (cut : Cut) → IsSplit n arcs delta kept cuts → IsVertex n v → cut ≡ get_or cuts (v - 1) cut → IsPart kept (light_of arcs delta v) cut.light cut.heavy
light_read n arcs delta kept cuts v cut h is read = subst (λ (x : Cut). IsPart kept (light_of arcs delta v) x.light x.heavy) (sym read) (light_at n arcs delta kept cuts cut h v is.0 is.1)

pub heavy_read : (n : ℕ) (arcs : List Arc) (delta : ℕ) (kept : List Arc) (cuts : List Cut) (v : ℕ) (cut next : Cut) → IsSplit n arcs delta kept cuts → IsVertex n v → cut ≡ get_or cuts (v - 1) cut → next ≡ get_or cuts v next → IsPart kept (heavy_of arcs delta v) cut.heavy next.light
heavy_read n arcs delta kept cuts v cut next h is read next-read =
    let same : get_or cuts v cut ≡ next = get_or_default cuts v cut next (omega (arith, h.size, is.1)) ∙ sym next-read in
    let part = heavy_at n arcs delta kept cuts cut h v is.0 is.1 in
    subst (λ (x : Cut). IsPart kept (heavy_of arcs delta v) cut.heavy x.light) same (subst (λ (x : Cut). IsPart kept (heavy_of arcs delta v) x.heavy (get_or cuts v cut).light) (sym read) part)

-- ## The loop

pub laid_none : (arcs : List Arc) (delta : ℕ) (kept : List Arc) → kept ≡ [] → kept ≡ laid_out arcs delta 0
unfolding laid_out
laid_none arcs delta kept e = e

pub cuts_none : (arcs : List Arc) (delta : ℕ) (cuts : List Cut) → cuts ≡ [] → CutsRows arcs delta 0 cuts
cuts_none arcs delta cuts e = record { size = ap length e; light = λ v d lt. absurd (omega arith); heavy = λ v d lt. absurd (omega arith) }

-- the next row is laid out
pub laid_next : (arcs : List Arc) (delta v : ℕ) (row kept new : List Arc) → row ≡ row_of arcs (v + 1) → kept ≡ laid_out arcs delta v
    → new ≡ kept ++ (filter (λ a. leb a.len delta) row ++ filter (λ a. ltb delta a.len) row) → new ≡ laid_out arcs delta (v + 1)
laid_next arcs delta v row kept new is before made =
    made ∙ ap (λ r. kept ++ (filter (λ a. leb a.len delta) r ++ filter (λ a. ltb delta a.len) r)) is ∙ ap (λ l. l ++ (light_of arcs delta (v + 1) ++ heavy_of arcs delta (v + 1))) before ∙ sym (laid_more arcs delta v)

pub cuts_more : (arcs : List Arc) (delta v : ℕ) (cuts : List Cut) (cut : Cut) → CutsRows arcs delta v cuts → cut.light ≡ light_place arcs delta v → cut.heavy ≡ heavy_place arcs delta v → CutsRows arcs delta (v + 1) (cuts ++ cut ∷ [])
cuts_more arcs delta v cuts cut h light heavy = record {
  size = length_push cuts cut ∙ ap (λ k. k + 1) h.size;
  light = λ w d lt. go-light w d (cases_lt w v) (omega arith);
  heavy = λ w d lt. go-heavy w d (cases_lt w v) (omega arith);
}
  where
    go-light : (w : ℕ) (d : Cut) → (w < v) ⊎ (v ≤ w) → w ≤ v → (get_or (cuts ++ cut ∷ []) w d).light ≡ light_place arcs delta w
    go-light w d (inl lt) le = rw (get_or_append_left cuts (cut ∷ []) d w (omega (arith, h.size))) (h.light w d lt)
    go-light w d (inr ge) le = let same : w ≡ v = omega arith in rw (same, get_or_push cuts cut d v h.size) light

    go-heavy : (w : ℕ) (d : Cut) → (w < v) ⊎ (v ≤ w) → w ≤ v → (get_or (cuts ++ cut ∷ []) w d).heavy ≡ heavy_place arcs delta w
    go-heavy w d (inl lt) le = rw (get_or_append_left cuts (cut ∷ []) d w (omega (arith, h.size))) (h.heavy w d lt)
    go-heavy w d (inr ge) le = let same : w ≡ v = omega arith in rw (same, get_or_push cuts cut d v h.size) heavy

pub cut_next : (arcs : List Arc) (delta v : ℕ) (row kept : List Arc) (cuts : List Cut) (cut : Cut) → row ≡ row_of arcs (v + 1) → kept ≡ laid_out arcs delta v
    → cut.light ≡ length kept → cut.heavy ≡ length (kept ++ filter (λ a. leb a.len delta) row) → CutsRows arcs delta v cuts → CutsRows arcs delta (v + 1) (cuts ++ cut ∷ [])
cut_next arcs delta v row kept cuts cut is before light heavy h =
    cuts_more arcs delta v cuts cut h (light ∙ ap length before) (heavy ∙ ap (λ r. length (kept ++ filter (λ a. leb a.len delta) r)) is ∙ ap (λ l. length (l ++ light_of arcs delta (v + 1))) before)

pub split_all : (arcs : List Arc) (delta n : ℕ) (kept : List Arc) (cuts : List Cut) (last : Cut) → CutsRows arcs delta n cuts → kept ≡ laid_out arcs delta n → last.light ≡ length kept → IsSplit n arcs delta kept (cuts ++ last ∷ [])
split_all arcs delta n kept cuts last h laid end = record {
  laid = laid;
  size = length_push cuts last ∙ ap (λ k. k + 1) h.size;
  light = λ w d le. go w d le (cases_lt w n);
  heavy = λ w d lt. rw (get_or_append_left cuts (last ∷ []) d w (omega (arith, h.size))) (h.heavy w d lt);
}
  where
    go : (w : ℕ) (d : Cut) → w ≤ n → (w < n) ⊎ (n ≤ w) → (get_or (cuts ++ last ∷ []) w d).light ≡ light_place arcs delta w
    go w d le (inl lt) = rw (get_or_append_left cuts (last ∷ []) d w (omega (arith, h.size))) (h.light w d lt)
    go w d le (inr ge) = let same : w ≡ n = omega arith in rw (same, get_or_push cuts last d n h.size) (end ∙ ap length laid)

-- what a split keeps
pub kept_order : (g : Graph) (delta : ℕ) (kept : List Arc) → IsGraph g → IsInOrder g.arcs → kept ≡ laid_out g.arcs delta g.n → in_order kept ≡ g.arcs
kept_order g delta kept h order laid = ap in_order laid ∙ order_laid g delta h order
