-- A text that was read whole.
use Rattle.std.proofs.Common.{◌≡◌, ℕ, ◌+◌, Bool, List, [], ◌∷◌, ◌++◌, length, refl, sym, ap, subst, ◌∙◌, arith, append_assoc, Option, Some, None}
use Rattle.std.specs.Io.KnownBytes.{Consumes, IsAtEnd}
use Rattle.std.proofs.KnownBytes.{Consumes-trans}
use Rattle.std.specs.List.Sorted.{IsPermutation}
use Rattle.std.proofs.lemmas.List.{append-nil}
use Rattle.sp_paths.specs.declared.arc.Arc.{Arc}
use Rattle.sp_paths.specs.Paths.{Graph}
use Rattle.sp_graph.specs.Order.{in_order}
use Rattle.sp_packed.specs.declared.word_sums.Sum.{Sum}
use Rattle.sp_packed.specs.declared.faults.PackedFault.{PackedFault}
use Rattle.sp_packed.specs.declared.faults.PackedKind.{PackedKind}
use Rattle.sp_packed.specs.Words.{words, sum_on, no_sum, sum_words}
use Rattle.sp_packed.specs.Packed.{head_words, ends_of, arcs_words, content, with_sum, packed_words, packed_text}
use Rattle.sp_packed.specs.Ends.{AreEnds, HasEnds}
use Rattle.sp_packed.specs.Rows.{AreRows, HasRows}
use Rattle.sp_packed.specs.Faults.{Tells}
use Rattle.sp_packed.specs.Reading.{front_words, HasFront, HasParts, Told}
use Rattle.sp_packed.proofs.Spelling.{words-append, sum_on-append}
use Rattle.sp_packed.proofs.Beginning.{parts_are}
use Rattle.sp_packed.proofs.Graphs.{keys_to-perm, index_is, ends_same, one_in_order, words_are, words_of_parts}

-- a fault that was made of a place and a kind
pub as_fault : (P : PackedFault → Type 0) (e : PackedFault) (at : ℕ) (kind : PackedKind) → e.at ≡ at → e.kind ≡ kind → P (record { at = at; kind = kind }) → P e
as_fault P e at kind at_is kind_is h =
    subst (λ x. P (record { at = x; kind = e.kind })) (sym at_is) (subst (λ x. P (record { at = at; kind = x })) (sym kind_is) h)

pub took_some : (old new : Option (List ℕ)) (bs : List ℕ) → Consumes old new bs → (text : List ℕ) → old ≡ Some text
    → (rest : List ℕ) × (text ≡ bs ++ rest) × (new ≡ Some rest)
took_some None new bs took text e = absurd (grind (arith, e))
took_some (Some old) None bs took text e = absurd took
took_some (Some old) (Some new) bs took text e = (new, same ∙ took, refl)
  where
    same : text ≡ old
    same = grind (arith, e)

-- ## The parts, one after the other

module _ (top most n m : ℕ) (old mid mid2 : Option (List ℕ)) (s t u : Sum) (ends : List ℕ) (front : HasFront top most old mid s t n m)
    (are : AreEnds n m ends) (has : HasEnds mid mid2 t u ends) where
  joined : front_words n m ++ has.came ≡ head_words n m ++ ends
  joined = append_assoc (head_words n m) (0 ∷ []) has.came ∙ ap (λ l. head_words n m ++ l) (sym has.is)

  pub took_ends : Consumes old mid2 (words (head_words n m ++ ends))
  took_ends =
      subst (λ l. Consumes old mid2 l) (sym (words-append (front_words n m) has.came) ∙ ap words joined)
      (Consumes-trans old mid mid2 (words (front_words n m)) (words has.came) front.took has.took)

  sum_ends : u ≡ sum_on s (head_words n m ++ ends)
  sum_ends = has.sum ∙ ap (λ v. sum_on v has.came) front.sum ∙ sym (sum_on-append s (front_words n m) has.came) ∙ ap (sum_on s) joined

  module _ (mid3 : Option (List ℕ)) (v : Sum) (arcs : List Arc) (rows : AreRows n ends arcs) (size : length arcs ≡ m) (has_rows : HasRows mid2 mid3 u v arcs) where
    content_is : (head_words n m ++ ends) ++ arcs_words arcs ≡ content n ends arcs
    content_is = append_assoc (head_words n m) ends (arcs_words arcs) ∙ ap (λ k. head_words n k ++ (ends ++ arcs_words arcs)) (sym size)

    pub took_rows : Consumes old mid3 (words (content n ends arcs))
    took_rows =
        subst (λ l. Consumes old mid3 l) (sym (words-append (head_words n m ++ ends) (arcs_words arcs)) ∙ ap words content_is)
        (Consumes-trans old mid2 mid3 (words (head_words n m ++ ends)) (words (arcs_words arcs)) took_ends has_rows.took)

    pub sum_rows : v ≡ sum_on s (content n ends arcs)
    sum_rows =
        has_rows.sum ∙ ap (λ x. sum_on x (arcs_words arcs)) sum_ends ∙ sym (sum_on-append s (head_words n m ++ ends) (arcs_words arcs)) ∙ ap (sum_on s) content_is

    pub has_parts : (new : Option (List ℕ)) → s ≡ no_sum → Consumes mid3 new (words (sum_words v)) → IsAtEnd new → HasParts top most old new n arcs
    has_parts new begun sum end = record {
      ends = ends;
      parts = parts_are top most n m front.counts ends arcs are rows size;
      took = subst (λ l. Consumes old new l)
          (ap (λ x. words (content n ends arcs) ++ words (sum_words x)) (sum_rows ∙ ap (λ x. sum_on x (content n ends arcs)) begun)
          ∙ sym (words-append (content n ends arcs) (sum_words (sum_on no_sum (content n ends arcs)))))
          (Consumes-trans old mid3 new (words (content n ends arcs)) (words (sum_words v)) took_rows sum);
      ended = end;
    }

-- ## Graphs with the same arcs

pub same_text : (g h : Graph) → g.n ≡ h.n → IsPermutation g.arcs h.arcs → packed_words g ≡ packed_words h
same_text g h n_is perm =
    let index = index_is g in
    let ends : ends_of g ≡ ends_of h = ends_same h.n h.arcs (ends_of g) (record {
      size = index.size ∙ ap (λ k. k + 1) n_is;
      each = λ v le. index.each v (omega (arith, n_is, le)) ∙ keys_to-perm g.arcs h.arcs v perm;
    }) in
    words_are g ∙ ap (λ k. with_sum (content k (ends_of g) (in_order g.arcs))) n_is ∙ ap (λ l. with_sum (content h.n l (in_order g.arcs))) ends
    ∙ ap (λ l. with_sum (content h.n (ends_of h) l)) (one_in_order g.arcs h.arcs perm) ∙ sym (words_are h)

-- The text of the parts.
module _ (top most n : ℕ) (old new : Option (List ℕ)) (arcs : List Arc) (h : HasParts top most old new n arcs) where
  pub read_text : (text : List ℕ) → old ≡ Some text → (new ≡ Some []) × (text ≡ packed_text (record { n = n; arcs = arcs }))
  read_text text e =
      let whole = with_sum (content n h.ends arcs) in
      let came = took_some old new (words whole) h.took text e in
      let none : came.0 ≡ [] = subst IsAtEnd came.2 h.ended in
      let parts : packed_words (record { n = n; arcs = arcs }) ≡ whole = words_of_parts top most n h.ends arcs h.parts in
      (came.2 ∙ ap (λ l. Some l) none, came.1 ∙ ap (λ l. words whole ++ l) none ∙ append-nil (words whole) ∙ ap words (sym parts))

-- what came is the front of the text
pub told_of : (top most : ℕ) (old new : Option (List ℕ)) (has_failed : Bool) (e : PackedFault) → Told top most old new has_failed e → (text : List ℕ) → old ≡ Some text
    → (came : List ℕ) × (more : List ℕ) × (text ≡ came ++ more) × (new ≡ Some more) × Tells top most came new has_failed e
told_of top most old new has_failed e (came, took, tells) text is =
    let some = took_some old new came took text is in
    (came, some.0, some.1, some.2, tells)
