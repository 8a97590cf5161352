-- The lengths of lists that grow, of two lists and of a list in another order.
use Rattle.std.proofs.Common.{◌≡◌, ℕ, suc, ◌+◌, ◌*◌, ◌%◌, ◌^◌, ◌<◌, ◌≤◌, max, List, [], ◌∷◌, ◌++◌, length, get_or, take, refl, sym, ap, ◌∙◌, arith}
use Rattle.std.proofs.Math.Nat.{add-mod, mod-add-mod, mod-eq_of_lt}
use Rattle.std.specs.Prelude.{All}
use Rattle.std.specs.List.Sorted.{IsPermutation}
use Rattle.std.proofs.lemmas.List.{take_more}
use Rattle.std.proofs.lemmas.List.Sums.{sum_by-cons, sum_by-append}
use Rattle.std.proofs.lemmas.List.Sorted.{sum_by-IsPermutation}
use Rattle.sp_paths.specs.declared.arc.Arc.{Arc}
use Rattle.sp_graph.specs.Mean.{total_length}
use Rattle.sp_graph.specs.Lengths.{AreLengths, with_arc, of_both}
use Rattle.sp_graph.specs.declared.lengths.Lengths.{Lengths}
use Rattle.sp_graph.proofs.Parts.{longest_none, longest_both, longest_more, longest_permutation}

pub lengths_none : AreLengths [] (record { longest = 0; total = 0 })
lengths_none = record { longest = longest_none; total = refl }

pub lengths_both : (xs ys : List Arc) (l m : Lengths) → AreLengths xs l → AreLengths ys m → AreLengths (xs ++ ys) (of_both l m)
lengths_both xs ys l m h k = record {
  longest = longest_both xs ys l.longest m.longest (max l.longest m.longest) h.longest k.longest refl;
  total =
      ap (λ t. t % 2 ^ 64) (ap (λ t. t + m.total) h.total ∙ ap (λ t. total_length xs % 2 ^ 64 + t) k.total)
      ∙ sym (add-mod (total_length xs) (total_length ys) (2 ^ 64))
      ∙ ap (λ t. t % 2 ^ 64) (sym (sum_by-append (λ a. a.len) xs ys));
}

pub lengths_more : (arcs : List Arc) (i : ℕ) (d : Arc) (l : Lengths) → i < length arcs → AreLengths (take i arcs) l → AreLengths (take (i + 1) arcs) (with_arc l (get_or arcs i d))
lengths_more arcs i d l lt h = record {
  longest = longest_more arcs i d l.longest (max l.longest (get_or arcs i d).len) lt h.longest refl;
  total =
      ap (λ t. (t + (get_or arcs i d).len) % 2 ^ 64) h.total
      ∙ mod-add-mod (total_length (take i arcs)) (2 ^ 64) (get_or arcs i d).len
      ∙ ap (λ t. t % 2 ^ 64) one_more;
}
  where
    one_more : total_length (take i arcs) + (get_or arcs i d).len ≡ total_length (take (i + 1) arcs)
    one_more =
        let more : total_length (take i arcs ++ (get_or arcs i d ∷ [])) ≡ total_length (take i arcs) + total_length (get_or arcs i d ∷ []) = sum_by-append (λ a. a.len) (take i arcs) (get_or arcs i d ∷ []) in
        let one : total_length (get_or arcs i d ∷ []) ≡ (get_or arcs i d).len + 0 = sum_by-cons (λ (a : Arc). a.len) (get_or arcs i d) [] in
        rw (take_more arcs i d lt) (omega (arith, more, one))

pub lengths_permutation : (xs ys : List Arc) (l : Lengths) → IsPermutation xs ys → AreLengths xs l → AreLengths ys l
lengths_permutation xs ys l same h = record {
  longest = longest_permutation xs ys l.longest same h.longest;
  total = h.total ∙ ap (λ t. t % 2 ^ 64) the_same;
}
  where
    the_same : total_length xs ≡ total_length ys
    the_same = sym (sum_by-IsPermutation (λ a. a.len) xs ys same)

-- ## The sum of few lengths

total_within : (arcs : List Arc) → All (λ a. a.len ≤ 4294967295) arcs → total_length arcs ≤ 4294967295 * length arcs
total_within [] h = omega arith
total_within (x ∷ xs) h = omega (arith, sum_by-cons (λ (a : Arc). a.len) x xs, h 0 x (omega arith), total_within xs (λ k d lt. h (suc k) d (omega arith)))

-- of fewer than 2^32 arcs the sum is below 2^64
pub total_is : (arcs : List Arc) (l : Lengths) → length arcs < 2 ^ 32 → l.longest < 2 ^ 32 → AreLengths arcs l → total_length arcs ≡ l.total
total_is arcs l few small h =
    let each : All (λ a. a.len ≤ 4294967295) arcs = λ k d lt. omega (arith, h.longest.none_longer k d lt) in
    sym (h.total ∙ mod-eq_of_lt (omega (arith, total_within arcs each)))
