-- The packed text of a graph, and its parts.
use Rattle.std.proofs.Common.{◌≡◌, ℕ, zero, suc, ◌+◌, ◌<◌, ◌≤◌, ◌^◌, List, [], ◌∷◌, ◌++◌, length, get_or, take, drop, refl, sym, ap, subst, ⊎_elim, ◌∙◌, arith, length-append}
use Rattle.std.specs.Prelude.{All}
use Rattle.std.specs.List.Sorted.{IsPermutation}
use Rattle.std.proofs.lemmas.Bool.{cases_lt}
use Rattle.std.proofs.lemmas.List.{take-append-drop, length-take-le, get_or_past}
use Rattle.std.proofs.lemmas.List.FromFn.{length-map-range_with_len, get_or-map-range_with_len, fill_by_all}
use Rattle.std.proofs.lemmas.List.Sorted.{length_permutation, All-permutation, sum_by-IsPermutation}
use Rattle.sp_paths.specs.declared.arc.Arc.{Arc}
use Rattle.sp_paths.specs.Paths.{Graph, IsArc}
use Rattle.sp_graph.specs.Order.{IsInOrder, in_order}
use Rattle.sp_graph.specs.Keys.{tail_of, keys_to}
use Rattle.sp_graph.specs.Index.{IsIndex}
use Rattle.sp_graph.proofs.Orders.{Rises, rises_in_order, sum_in_order, order_of, one_order}
use Rattle.sp_graph.proofs.Scatter.{perm_from_weights}
use Rattle.sp_packed.specs.Words.{words, sum_on, no_sum, sum_words}
use Rattle.sp_packed.specs.Packed.{head_words, ends_of, arcs_words, content, with_sum, packed_words, IsPackable, IsWithin}
use Rattle.sp_packed.specs.Ends.{AreRising}
use Rattle.sp_packed.specs.Rows.{AreRows}
use Rattle.sp_packed.specs.Parts.{AreParts, BegunGraph}
use Rattle.sp_packed.specs.Faults.{BeginsBy, Begins}
use Rattle.sp_packed.proofs.Spelling.{length-words, words-append, words_equal, fit_both, fit_take, sum_fits}
use Rattle.sp_packed.proofs.RowSteps.{arcs_fit}
use Rattle.sp_packed.proofs.RowIndex.{ends_of_index, rows_of_index, index_of_rows}

-- ## The arcs of a graph in order

ordered : (xs : List Arc) → Rises xs → IsInOrder xs
ordered [] r k d lt = absurd (omega arith)
ordered (x ∷ []) r k d lt = absurd (omega arith)
ordered (x ∷ (y ∷ ys)) r zero d lt = r.0.0
ordered (x ∷ (y ∷ ys)) r (suc k) d lt =
    let next : suc k + 1 ≡ suc (k + 1) = omega arith in
    rw next (ordered (y ∷ ys) r.1 k d (omega arith))

pub in_order_is : (xs : List Arc) → IsInOrder (in_order xs)
in_order_is xs = ordered (in_order xs) (rises_in_order xs)

pub perm_in_order : (xs : List Arc) → IsPermutation xs (in_order xs)
perm_in_order xs = perm_from_weights xs (in_order xs) (λ f. sym (sum_in_order f xs))

pub order_same : (xs : List Arc) → IsInOrder xs → in_order xs ≡ xs
order_same xs h = order_of xs xs h (λ f. refl)

pub one_in_order : (xs ys : List Arc) → IsPermutation xs ys → in_order xs ≡ in_order ys
one_in_order xs ys p =
    one_order (in_order xs) (in_order ys) (rises_in_order xs) (rises_in_order ys)
    (λ f. sum_in_order f xs ∙ sym (sum_by-IsPermutation f xs ys p) ∙ sym (sum_in_order f ys))

pub keys_to-perm : (xs ys : List Arc) (v : ℕ) → IsPermutation xs ys → keys_to tail_of xs v ≡ keys_to tail_of ys v
keys_to-perm xs ys v p = sym (sum_by-IsPermutation _ xs ys p)

-- ## The ends of its rows

pub index_is : (g : Graph) → IsIndex g.n g.arcs (ends_of g)
index_is g = record {
  size = length-map-range_with_len (λ v. keys_to tail_of g.arcs v) 0 (g.n + 1);
  each = λ v le. get_or-map-range_with_len (λ v. keys_to tail_of g.arcs v) 0 (g.n + 1) v v 0 (omega arith) (omega arith);
}

pub ends_same : (n : ℕ) (arcs : List Arc) (ends : List ℕ) → IsIndex n arcs ends → ends ≡ ends_of (record { n = n; arcs = arcs })
ends_same n arcs ends h = fill_by_all (λ v. keys_to tail_of arcs v) ends (n + 1) 0 h.size (λ v lt. h.each v (omega arith))

-- ## A graph and its parts

pub size_in_order : (g : Graph) → length (in_order g.arcs) ≡ length g.arcs
size_in_order g = length_permutation g.arcs (in_order g.arcs) (perm_in_order g.arcs)

pub words_are : (g : Graph) → packed_words g ≡ with_sum (content g.n (ends_of g) (in_order g.arcs))
unfolding packed_words
words_are g = refl

pub parts_of : (top most : ℕ) (g : Graph) → IsPackable g → IsWithin top most g → AreParts top most g.n (ends_of g) (in_order g.arcs)
parts_of top most g h w = record {
  some = h.some;
  n_fits = h.n;
  n_within = w.n;
  few = subst (λ k. k < 2 ^ 32) (sym (size_in_order g)) h.few;
  within = subst (λ k. k ≤ most) (sym (size_in_order g)) w.arcs;
  ends_are = ends_of_index g.n (in_order g.arcs) are order (ends_of g) index;
  rows = record { arcs_are = are; lengths = lens; order = order; rows = rows_of_index g.n (in_order g.arcs) are order (ends_of g) index };
}
  where
    are : All (IsArc g.n) (in_order g.arcs)
    are = All-permutation (IsArc g.n) g.arcs (in_order g.arcs) (perm_in_order g.arcs) h.graph

    lens : All (λ (a : Arc). a.len < 2 ^ 32) (in_order g.arcs)
    lens = All-permutation (λ (a : Arc). a.len < 2 ^ 32) g.arcs (in_order g.arcs) (perm_in_order g.arcs) h.lengths

    order : IsInOrder (in_order g.arcs)
    order = in_order_is g.arcs

    index : IsIndex g.n (in_order g.arcs) (ends_of g)
    index = record {
      size = (index_is g).size;
      each = λ v le. (index_is g).each v le ∙ keys_to-perm g.arcs (in_order g.arcs) v (perm_in_order g.arcs);
    }

module _ (top most n : ℕ) (ends : List ℕ) (arcs : List Arc) (parts : AreParts top most n ends arcs) where
  g : Graph
  g = record { n = n; arcs = arcs }

  pub packable : IsPackable (record { n = n; arcs = arcs })
  packable = record { some = parts.some; n = parts.n_fits; few = parts.few; graph = parts.rows.arcs_are; lengths = parts.rows.lengths }

  pub within : IsWithin top most (record { n = n; arcs = arcs })
  within = record { n = parts.n_within; arcs = parts.within }

  pub words_of_parts : packed_words (record { n = n; arcs = arcs }) ≡ with_sum (content n ends arcs)
  words_of_parts =
      let index = index_of_rows n arcs parts.rows.arcs_are parts.rows.order ends parts.ends_are parts.rows.rows in
      let graph : Graph = record { n = n; arcs = arcs } in
      words_are graph ∙ ap (λ l. with_sum (content n l (in_order arcs))) (sym (ends_same n arcs ends index))
      ∙ ap (λ l. with_sum (content n ends l)) (order_same arcs parts.rows.order)

-- ## Texts that begin with the same words

pub head_fits : (n m : ℕ) → n < 2 ^ 32 → m < 2 ^ 32 → (i : ℕ) → get_or (head_words n m) i 0 < 2 ^ 32
unfolding head_words
head_fits n m hn hm zero = omega arith
head_fits n m hn hm (suc zero) = omega arith
head_fits n m hn hm (suc (suc zero)) = hn
head_fits n m hn hm (suc (suc (suc zero))) = hm
head_fits n m hn hm (suc (suc (suc (suc i)))) = omega arith

pub ends_fit : (n m : ℕ) (ends : List ℕ) → m < 2 ^ 32 → AreRising m ends → (i : ℕ) → get_or ends i 0 < 2 ^ 32
ends_fit n m ends fits h zero = omega (arith, h.begin)
ends_fit n m ends fits h (suc i) =
    ⊎_elim (λ lt. let le = (h.rise (suc i) (omega arith) lt).1 in omega (arith, le))
    (λ ge. let none = get_or_past ends (suc i) 0 ge in omega (arith, none)) (cases_lt (suc i) (length ends))

pub content_fits : (n m : ℕ) (ends : List ℕ) (arcs : List Arc) → n < 2 ^ 32 → m < 2 ^ 32 → AreRising m ends → AreRows n ends arcs
    → (i : ℕ) → get_or (head_words n m ++ (ends ++ arcs_words arcs)) i 0 < 2 ^ 32
content_fits n m ends arcs hn hm rising rows =
    fit_both (head_words n m) (ends ++ arcs_words arcs) (head_fits n m hn hm)
    (fit_both ends (arcs_words arcs) (ends_fit n m ends hm rising) (arcs_fit n arcs hn rows.arcs_are rows.lengths))

pub parts_fit : (top most n : ℕ) (ends : List ℕ) (arcs : List Arc) → AreParts top most n ends arcs → (i : ℕ) → get_or (with_sum (content n ends arcs)) i 0 < 2 ^ 32
parts_fit top most n ends arcs parts =
    fit_both (content n ends arcs) (sum_words (sum_on no_sum (content n ends arcs)))
    (content_fits n (length arcs) ends arcs parts.n_fits parts.few parts.ends_are.rising parts.rows) (sum_fits (content n ends arcs))

pub begins_of : (top most : ℕ) (ws : List ℕ) (b : BegunGraph top most ws) → BeginsBy top most (record { n = b.n; arcs = b.arcs }) (words ws)
begins_of top most ws b = record {
  packable = packable top most b.n b.ends b.arcs b.parts;
  within = within top most b.n b.ends b.arcs b.parts;
  more = words b.more;
  is = ap words (words_of_parts top most b.n b.ends b.arcs b.parts ∙ b.is) ∙ words-append ws b.more;
}

-- and the other way round
pub words_front : (top most : ℕ) (g : Graph) (ws : List ℕ) → ((i : ℕ) → get_or ws i 0 < 2 ^ 32) → BeginsBy top most g (words ws)
    → (more : List ℕ) × (with_sum (content g.n (ends_of g) (in_order g.arcs)) ≡ ws ++ more)
words_front top most g ws fits b =
    let parts = parts_of top most g b.packable b.within in
    let all = with_sum (content g.n (ends_of g) (in_order g.arcs)) in
    let k = length ws in
    let long : length ws ≤ length all
    = omega (arith, ap length b.is, ap length (words_are g), length-words (packed_words g), length-append (words ws) b.more, length-words ws) in
    let split : all ≡ take k all ++ drop k all = sym (take-append-drop k all) in
    let e : words (take k all) ++ words (drop k all) ≡ words ws ++ b.more
    = sym (words-append (take k all) (drop k all)) ∙ ap words (sym split) ∙ ap words (sym (words_are g)) ∙ b.is in
    let same = words_equal (take k all) ws (words (drop k all)) b.more (fit_take all k (parts_fit top most g.n (ends_of g) (in_order g.arcs) parts)) fits
    (length-take-le k all long) e in
    (drop k all, split ∙ ap (λ l. l ++ drop k all) same.0)

pub begun_of : (top most : ℕ) (ws : List ℕ) → ((i : ℕ) → get_or ws i 0 < 2 ^ 32) → Begins top most (words ws) → BegunGraph top most ws
begun_of top most ws fits (g, b) =
    let front = words_front top most g ws fits b in
    record {
      n = g.n;
      ends = ends_of g;
      arcs = in_order g.arcs;
      parts = parts_of top most g b.packable b.within;
      more = front.0;
      is = front.1;
    }
