-- The laws of packed texts.
use Rattle.std.proofs.Common.{◌≡◌, ◌≢◌, ℕ, ◌+◌, ◌*◌, ◌<◌, ◌≤◌, ◌^◌, Bool, List, [], ◌++◌, length, get_or, take, drop, refl, sym, ap, subst, ◌∙◌, arith, append_assoc, length-append, Some}
use Rattle.std.specs.List.Sorted.{IsPermutation}
use Rattle.std.proofs.lemmas.List.{append-nil, nil_from_length, take_all, take-append-drop, length-drop, length-take-le, ext_get_or}
use Rattle.std.proofs.lemmas.List.Elements.{All-get_or}
use Rattle.std.proofs.lemmas.List.Sorted.{length_permutation, IsPermutation-sym, IsPermutation-trans}
use Rattle.sp_paths.specs.declared.arc.Arc.{Arc}
use Rattle.sp_paths.specs.Paths.{Graph, IsArc}
use Rattle.sp_graph.specs.Order.{in_order}
use Rattle.sp_packed.specs.declared.faults.PackedFault.{PackedFault}
use Rattle.sp_packed.specs.declared.faults.PackedKind.{PackedKind}
use Rattle.sp_packed.specs.declared.faults.PackedKind.TheVariants.{OtherForm, OutOfRange, OtherSum, TooMany, TooFew, Memory, Read}
use Rattle.sp_packed.specs.Words.{words, sum_on, no_sum, sum_words}
use Rattle.sp_packed.specs.Packed.{head_words, ends_of, arcs_words, content, packed_words, packed_text, IsPackable, IsWithin}
use Rattle.sp_packed.specs.Rows.{AreRows}
use Rattle.sp_packed.specs.Parts.{AreParts}
use Rattle.sp_packed.specs.Faults.{BeginsBy, Begins, IsPlace, Shows, Tells}
use Rattle.sp_packed.proofs.Spelling.{length-words, words_equal, same_parts}
use Rattle.sp_packed.proofs.RowSteps.{length-arcs_words, same_arc}
use Rattle.sp_packed.proofs.Beginning.{length-parts, parts_shape, head_same}
use Rattle.sp_packed.proofs.Graphs.{index_is, size_in_order, perm_in_order, words_are, parts_of, parts_fit, words_front}
use Rattle.sp_packed.proofs.Whole.{same_text}

pub one_text : (g h : Graph) → g.n ≡ h.n → IsPermutation g.arcs h.arcs → packed_text g ≡ packed_text h
one_text g h n perm = ap words (same_text g h n perm)

pub length-packed : (g : Graph) → length (packed_words g) ≡ g.n + 2 * length g.arcs + 9
length-packed g = omega (arith, ap length (words_are g), length-parts g.n (ends_of g) (in_order g.arcs), (index_is g).size, size_in_order g)

pub length-text : (g : Graph) → length (packed_text g) ≡ 4 * (g.n + 2 * length g.arcs + 9)
length-text g = length-words (packed_words g) ∙ ap (λ k. 4 * k) (length-packed g)

-- limits that two graphs are within
module _ (g h : Graph) (pg : IsPackable g) (ph : IsPackable h) where
  g_within : IsWithin (g.n + h.n) (length g.arcs + length h.arcs) g
  g_within = record { n = omega arith; arcs = omega arith }

  h_within : IsWithin (g.n + h.n) (length g.arcs + length h.arcs) h
  h_within = record { n = omega arith; arcs = omega arith }

  g_parts : AreParts (g.n + h.n) (length g.arcs + length h.arcs) g.n (ends_of g) (in_order g.arcs)
  g_parts = parts_of (g.n + h.n) (length g.arcs + length h.arcs) g pg g_within

  h_parts : AreParts (g.n + h.n) (length g.arcs + length h.arcs) h.n (ends_of h) (in_order h.arcs)
  h_parts = parts_of (g.n + h.n) (length g.arcs + length h.arcs) h ph h_within

  g_fits : (i : ℕ) → get_or (packed_words g) i 0 < 2 ^ 32
  g_fits i = subst (λ l. get_or l i 0 < 2 ^ 32) (sym (words_are g)) (parts_fit (g.n + h.n) (length g.arcs + length h.arcs) g.n (ends_of g) (in_order g.arcs) g_parts i)

  h_fits : (i : ℕ) → get_or (packed_words h) i 0 < 2 ^ 32
  h_fits i = subst (λ l. get_or l i 0 < 2 ^ 32) (sym (words_are h)) (parts_fit (g.n + h.n) (length g.arcs + length h.arcs) h.n (ends_of h) (in_order h.arcs) h_parts i)

  -- the words of one begin with those of the other
  module _ (more : List ℕ) (e : packed_words h ≡ packed_words g ++ more) where
    heads : (h.n ≡ g.n) × (length (in_order h.arcs) ≡ length (in_order g.arcs))
        × (ends_of h ++ (arcs_words (in_order h.arcs) ++ sum_words (sum_on no_sum (content h.n (ends_of h) (in_order h.arcs))))
        ≡ (ends_of g ++ (arcs_words (in_order g.arcs) ++ sum_words (sum_on no_sum (content g.n (ends_of g) (in_order g.arcs))))) ++ more)
    heads =
        let rest_g = ends_of g ++ (arcs_words (in_order g.arcs) ++ sum_words (sum_on no_sum (content g.n (ends_of g) (in_order g.arcs)))) in
        let rest_h = ends_of h ++ (arcs_words (in_order h.arcs) ++ sum_words (sum_on no_sum (content h.n (ends_of h) (in_order h.arcs)))) in
        head_same h.n (length (in_order h.arcs)) g.n (length (in_order g.arcs)) rest_h (rest_g ++ more)
        (sym (parts_shape h.n (ends_of h) (in_order h.arcs)) ∙ sym (words_are h) ∙ e ∙ ap (λ l. l ++ more) (words_are g ∙ parts_shape g.n (ends_of g) (in_order g.arcs))
        ∙ append_assoc (head_words g.n (length (in_order g.arcs))) rest_g more)

    pub no_more : more ≡ []
    no_more =
        nil_from_length more (omega (
          arith,
          ap length e,
          length-append (packed_words g) more,
          length-packed g,
          length-packed h,
          heads.0,
          heads.1,
          size_in_order g,
          size_in_order h,
        ))

    ends_same : (ends_of h ≡ ends_of g)
        × (arcs_words (in_order h.arcs) ++ sum_words (sum_on no_sum (content h.n (ends_of h) (in_order h.arcs)))
        ≡ (arcs_words (in_order g.arcs) ++ sum_words (sum_on no_sum (content g.n (ends_of g) (in_order g.arcs)))) ++ more)
    ends_same =
        let rest_g = arcs_words (in_order g.arcs) ++ sum_words (sum_on no_sum (content g.n (ends_of g) (in_order g.arcs))) in
        let rest_h = arcs_words (in_order h.arcs) ++ sum_words (sum_on no_sum (content h.n (ends_of h) (in_order h.arcs))) in
        same_parts (ends_of h) (ends_of g) rest_h (rest_g ++ more) ((index_is h).size ∙ ap (λ k. k + 1) heads.0 ∙ sym (index_is g).size)
        (heads.2 ∙ append_assoc (ends_of g) rest_g more)

    words_same : arcs_words (in_order h.arcs) ≡ arcs_words (in_order g.arcs)
    words_same =
        let s_g = sum_words (sum_on no_sum (content g.n (ends_of g) (in_order g.arcs))) in
        let s_h = sum_words (sum_on no_sum (content h.n (ends_of h) (in_order h.arcs))) in
        (same_parts (arcs_words (in_order h.arcs)) (arcs_words (in_order g.arcs)) s_h (s_g ++ more)
        (omega (arith, length-arcs_words (in_order h.arcs), length-arcs_words (in_order g.arcs), heads.1))
        (ends_same.1 ∙ append_assoc (arcs_words (in_order g.arcs)) s_g more)).0

    g_rows : AreRows h.n (ends_of h) (in_order g.arcs)
    g_rows = subst (λ k. AreRows k (ends_of h) (in_order g.arcs)) (sym heads.0) (subst (λ l. AreRows g.n l (in_order g.arcs)) (sym ends_same.0) g_parts.rows)

    arcs_same : in_order h.arcs ≡ in_order g.arcs
    arcs_same =
        let d : Arc = record { tail = 0; head = 0; len = 0 } in
        ext_get_or d (in_order h.arcs) (in_order g.arcs) heads.1
        (λ k lt.
        let there : k < length (in_order g.arcs) = omega (arith, heads.1, lt) in
        same_arc h.n (length (in_order h.arcs)) (ends_of h) (in_order h.arcs) (in_order g.arcs) k d d h_parts.ends_are (λ i li. ap (λ l. get_or l i 0) words_same) lt there
        (All-get_or (IsArc h.n) (in_order h.arcs) k d lt h_parts.rows.arcs_are).0.1 (All-get_or (IsArc h.n) (in_order g.arcs) k d there g_rows.arcs_are).0.1
        (h_parts.rows.rows k d lt) (g_rows.rows k d there))

    pub same_graph : (g.n ≡ h.n) × IsPermutation g.arcs h.arcs
    same_graph = (
      sym heads.0,
      IsPermutation-trans g.arcs (in_order g.arcs) h.arcs (perm_in_order g.arcs)
          (subst (λ l. IsPermutation l h.arcs) arcs_same (IsPermutation-sym h.arcs (in_order h.arcs) (perm_in_order h.arcs))),
    )

  pub none_behind : (more : List ℕ) → packed_text h ≡ packed_text g ++ more → more ≡ []
  none_behind more e =
      let begins : BeginsBy (g.n + h.n) (length g.arcs + length h.arcs) h (words (packed_words g)) = record { packable = ph; within = h_within; more = more; is = e } in
      let front = words_front (g.n + h.n) (length g.arcs + length h.arcs) h (packed_words g) g_fits begins in
      let rest : packed_words h ≡ packed_words g ++ front.0 = words_are h ∙ front.1 in
      nil_from_length more (omega (
        arith,
        ap length e,
        length-append (words (packed_words g)) more,
        length-words (packed_words g),
        length-words (packed_words h),
        ap length rest,
        length-append (packed_words g) front.0,
        ap length (no_more front.0 rest),
      ))

  pub one_graph : packed_text g ≡ packed_text h → (g.n ≡ h.n) × IsPermutation g.arcs h.arcs
  one_graph e =
      let size : length (packed_words h) ≡ length (packed_words g) = omega (arith, ap length e, length-words (packed_words g), length-words (packed_words h)) in
      let same = words_equal (packed_words h) (packed_words g) [] [] h_fits g_fits size
      (append-nil (words (packed_words h)) ∙ sym e ∙ sym (append-nil (words (packed_words g)))) in
      same_graph [] (same.0 ∙ sym (append-nil (packed_words g)))

-- A text of which a fault is told is none.
module _ (top most : ℕ) (came more : List ℕ) (has_failed : Bool) (g : Graph) (pg : IsPackable g) (wg : IsWithin top most g) (text : packed_text g ≡ came ++ more) where
  begins_with : (k : ℕ) → Begins top most (take k came)
  begins_with k = (
    g,
    record {
      packable = pg;
      within = wg;
      more = drop k came ++ more;
      is = text ∙ ap (λ l. l ++ more) (sym (take-append-drop k came)) ∙ append_assoc (take k came) (drop k came) more;
    },
  )

  -- a whole packed text stands in front of some bytes
  many : (at word : ℕ) (h : Graph) → BeginsBy top most h (take at came) → at ≡ 4 * word → word ≡ 9 + h.n + 2 * length h.arcs → at < length came → ⊥
  many at word h b is total lt =
      let front : length (take at came) ≡ at = length-take-le at came (omega arith) in
      let none : b.more ≡ [] = nil_from_length b.more (omega (arith, ap length b.is, length-append (take at came) b.more, length-text h, front, is, total)) in
      let whole : packed_text h ≡ take at came = b.is ∙ ap (λ l. take at came ++ l) none ∙ append-nil (take at came) in
      let rest = drop at came ++ more in
      let split : packed_text g ≡ packed_text h ++ rest
      = text ∙ ap (λ l. l ++ more) (sym (take-append-drop at came)) ∙ append_assoc (take at came) (drop at came) more ∙ ap (λ l. l ++ rest) (sym whole) in
      omega (arith, ap length (none_behind h g b.packable pg rest split), length-append (drop at came) more, length-drop at came, lt)

  few : (at word : ℕ) (h : Graph) → BeginsBy top most h (take at came) → at ≡ 4 * word → word < 9 + h.n + 2 * length h.arcs → at ≤ length came → length came < at + 4 → more ≡ [] → ⊥
  few at word h b is short le lt none =
      let whole : packed_text g ≡ came = text ∙ ap (λ l. came ++ l) none ∙ append-nil came in
      let all : length came ≡ at = omega (arith, ap length whole, length-text g, is, le, lt) in
      let same : take at came ≡ came = take_all at came (omega (arith, all)) in
      let split : packed_text h ≡ packed_text g ++ b.more = b.is ∙ ap (λ l. l ++ b.more) (same ∙ sym whole) in
      omega (arith, ap length split, length-append (packed_text g) b.more, ap length (none_behind g h pg b.packable b.more split), length-text h, ap length whole, all, is, short)

  shown : (at word : ℕ) (h : Graph) (kind : PackedKind) → BeginsBy top most h (take at came) → at ≡ 4 * word → at ≤ length came → IsPlace kind h.n (length h.arcs) word
      → Shows top most came (Some more) has_failed at kind → kind ≢ Memory → kind ≢ Read → ⊥
  shown at word h OtherForm b is le place (long, other) memory read = other (begins_with (at + 4))
  shown at word h (OutOfRange field) b is le place (long, other) memory read = other (begins_with (at + 4))
  shown at word h OtherSum b is le place (long, other) memory read = other (begins_with (at + 4))
  shown at word h TooMany b is le place lt memory read = many at word h b is place lt
  shown at word h TooFew b is le place (lt, none) memory read = few at word h b is place le lt none
  shown at word h Memory b is le place shows memory read = memory refl
  shown at word h Read b is le place shows memory read = read refl

  pub faulty_none : (e : PackedFault) → Tells top most came (Some more) has_failed e → e.kind ≢ Memory → e.kind ≢ Read → ⊥
  faulty_none e h memory read = shown e.at h.word h.graph e.kind h.begins h.place h.within h.kind h.shows memory read

-- Graphs with the same arcs are within the same limits.
pub same_within : (top most : ℕ) (g h : Graph) → h.n ≡ g.n → IsPermutation g.arcs h.arcs → IsWithin top most g → IsWithin top most h
same_within top most g h n_is perm w = record {
  n = subst (λ k. k ≤ top) (sym n_is) w.n;
  arcs = subst (λ k. k ≤ most) (sym (length_permutation g.arcs h.arcs perm)) w.arcs;
}

-- There was no memory for the graph of a whole text.
pub tells_last : (top most : ℕ) (g : Graph) (has_failed : Bool) (text : List ℕ) (e : PackedFault) → IsPackable g → IsWithin top most g → text ≡ packed_text g
    → e.at ≡ 4 * (8 + g.n + 2 * length g.arcs) → e.kind ≡ Memory → Tells top most text (Some []) has_failed e
tells_last top most g has_failed text e pg wg is at_is kind_is =
    let long : length text ≡ 4 * (g.n + 2 * length g.arcs + 9) = ap length is ∙ length-text g in
    record {
      word = 8 + g.n + 2 * length g.arcs;
      place = at_is;
      within = omega (arith, at_is, long);
      graph = g;
      begins = first e.at;
      kind = subst (λ k. IsPlace k g.n (length g.arcs) (8 + g.n + 2 * length g.arcs)) (sym kind_is) (omega arith);
      shows = subst (λ k. Shows top most text (Some []) has_failed e.at k) (sym kind_is) (omega (arith, at_is, long), (g, first (e.at + 4)));
    }
  where
    first : (k : ℕ) → BeginsBy top most g (take k text)
    first k = record { packable = pg; within = wg; more = drop k text; is = sym is ∙ sym (take-append-drop k text) }
