-- Words that are sent one after the other.
use Rattle.std.proofs.Common.{◌≡◌, ℕ, ◌+◌, ◌<◌, List, [], ◌∷◌, ◌++◌, length, map, get_or, take, refl, sym, ap, subst, ◌∙◌, arith, append_assoc}
use Rattle.std.specs.Prelude.{All, nat_eq}
use Rattle.std.specs.List.{range_with_len}
use Rattle.std.proofs.lemmas.List.{take_more, append-nil}
use Rattle.std.proofs.lemmas.List.FromFn.{map-range_with_len_more}
use Rattle.std.proofs.lemmas.List.Sums.{length-filter}
use Rattle.std.proofs.lemmas.List.Elements.{All-head, All-tail}
use Rattle.sp_device.specs.declared.devices.Write.{Ghosts as Writer}
use Rattle.sp_device.specs.declared.printing.Printer.{Printer}
use Rattle.sp_device.specs.Printing.{Sends, IsSending}
use Rattle.sp_paths.specs.declared.arc.Arc.{Arc}
use Rattle.sp_paths.specs.Paths.{Graph, IsArc}
use Rattle.sp_paths.specs.Rows.{row_of}
use Rattle.sp_graph.specs.Order.{IsInOrder, in_order}
use Rattle.sp_graph.specs.Keys.{tail_of, keys_to}
use Rattle.sp_graph.proofs.Keys.{to_no, to_more}
use Rattle.sp_packed.specs.declared.word_sums.Sum.{Sum}
use Rattle.sp_packed.specs.Words.{word, words, sum_on, no_sum, sum_words}
use Rattle.sp_packed.specs.Packed.{head_words, ends_of, arc_words, arcs_words, content, packed_text}
use Rattle.sp_packed.proofs.Spelling.{words-append, sum_on-append}
use Rattle.sp_packed.proofs.RowSteps.{arcs_words-append}
use Rattle.sp_packed.proofs.Graphs.{order_same, words_are}

module _ {W : Type 0} (w : Writer W) where
  pub sends_nothing : (out : W) (printer : Printer) → Sends w [] out printer out printer
  sends_nothing out printer front start h = subst (λ l. IsSending w l start out printer) (sym (append-nil front)) h

  pub sends_both : (a b : List ℕ) (x y z : W) (p q r : Printer) → Sends w a x p y q → Sends w b y q z r → Sends w (a ++ b) x p z r
  sends_both a b x y z p q r ha hb front start h =
      subst (λ l. IsSending w l start z r) (append_assoc front a b) (hb (front ++ a) start (ha front start h))

  pub sends_word : (numbers : List ℕ) (i : ℕ) (x y z : W) (p q r : Printer) → i < length numbers → Sends w (words (take i numbers)) x p y q
      → Sends w (word (get_or numbers i 0)) y q z r → Sends w (words (take (i + 1) numbers)) x p z r
  sends_word numbers i x y z p q r lt ha hb =
      let n = get_or numbers i 0 in
      let e : words (take i numbers) ++ word n ≡ words (take (i + 1) numbers)
      = ap (λ l. words (take i numbers) ++ l) (sym (append-nil (word n))) ∙ sym (words-append (take i numbers) (n ∷ [])) ∙ ap words (sym (take_more numbers i 0 lt)) in
      subst (λ l. Sends w l x p z r) e (sends_both (words (take i numbers)) (word n) x y z p q r ha hb)

  pub sends_arc : (arcs : List Arc) (i : ℕ) (d : Arc) (x y z : W) (p q r : Printer) → i < length arcs → Sends w (words (arcs_words (take i arcs))) x p y q
      → Sends w (words (arc_words (get_or arcs i d))) y q z r → Sends w (words (arcs_words (take (i + 1) arcs))) x p z r
  sends_arc arcs i d x y z p q r lt ha hb =
      let a = get_or arcs i d in
      let front = arcs_words (take i arcs) in
      let e : words front ++ words (arc_words a) ≡ words (arcs_words (take (i + 1) arcs))
      = sym (words-append front (arc_words a)) ∙ ap words (sym (arcs_words-append (take i arcs) (a ∷ []))) ∙ ap (λ l. words (arcs_words l)) (sym (take_more arcs i d lt)) in
      subst (λ l. Sends w l x p z r) e (sends_both (words front) (words (arc_words a)) x y z p q r ha hb)

pub sum_arc : (s t : Sum) (arcs : List Arc) (i : ℕ) (d : Arc) → i < length arcs → t ≡ sum_on s (arcs_words (take i arcs))
    → sum_on t (arc_words (get_or arcs i d)) ≡ sum_on s (arcs_words (take (i + 1) arcs))
sum_arc s t arcs i d lt e =
    ap (λ v. sum_on v (arc_words (get_or arcs i d))) e ∙ sym (sum_on-append s (arcs_words (take i arcs)) (arc_words (get_or arcs i d)))
    ∙ ap (sum_on s) (sym (arcs_words-append (take i arcs) (get_or arcs i d ∷ []))) ∙ ap (λ l. sum_on s (arcs_words l)) (sym (take_more arcs i d lt))

-- ## The ends of rows

-- no arc has tail 0
pub no_tails : (n : ℕ) (arcs : List Arc) → All (IsArc n) arcs → keys_to tail_of arcs 0 ≡ 0
no_tails n [] h = refl
no_tails n (a ∷ arcs) h =
    let some = (All-head (IsArc n) a arcs h).0.0 in
    to_no tail_of a arcs 0 some ∙ no_tails n arcs (All-tail (IsArc n) a arcs h)

-- one row more
pub end_more : (arcs : List Arc) (v : ℕ) → keys_to tail_of arcs (v + 1) ≡ keys_to tail_of arcs v + length (row_of arcs (v + 1))
end_more arcs v =
    omega (arith, to_more tail_of arcs v (v + 1) refl, length-filter (λ (a : Arc). nat_eq a.tail (v + 1)) arcs)

module _ {W : Type 0} (w : Writer W) where
  -- the 0 of row 0
  pub sends_first : (n : ℕ) (arcs : List Arc) (s t : Sum) (x y : W) (p q : Printer) → All (IsArc n) arcs → Sends w (words (0 ∷ [])) x p y q → t ≡ sum_on s (0 ∷ [])
      → Sends w (words (map (λ v. keys_to tail_of arcs v) (range_with_len 0 (0 + 1)))) x p y q × (t ≡ sum_on s (map (λ v. keys_to tail_of arcs v) (range_with_len 0 (0 + 1))))
  sends_first n arcs s t x y p q are sent sum =
      let e : 0 ∷ [] ≡ map (λ v. keys_to tail_of arcs v) (range_with_len 0 (0 + 1)) = ap (λ k. k ∷ []) (sym (no_tails n arcs are)) in
      (subst (λ l. Sends w (words l) x p y q) e sent, sum ∙ ap (sum_on s) e)

  -- one end more
  pub sends_end : (arcs : List Arc) (s t u : Sum) (v end : ℕ) (x y z : W) (p q r : Printer) → end ≡ keys_to tail_of arcs (v + 1)
      → Sends w (words (map (λ k. keys_to tail_of arcs k) (range_with_len 0 (v + 1)))) x p y q → t ≡ sum_on s (map (λ k. keys_to tail_of arcs k) (range_with_len 0 (v + 1)))
      → Sends w (words (end ∷ [])) y q z r → u ≡ sum_on t (end ∷ [])
      → Sends w (words (map (λ k. keys_to tail_of arcs k) (range_with_len 0 (v + 1 + 1)))) x p z r
      × (u ≡ sum_on s (map (λ k. keys_to tail_of arcs k) (range_with_len 0 (v + 1 + 1))))
  sends_end arcs s t u v end x y z p q r is sent sum next next_sum =
      let front = map (λ k. keys_to tail_of arcs k) (range_with_len 0 (v + 1)) in
      let e : front ++ (end ∷ []) ≡ map (λ k. keys_to tail_of arcs k) (range_with_len 0 (v + 1 + 1))
      = ap (λ k. front ++ (k ∷ [])) is ∙ sym (map-range_with_len_more (λ k. keys_to tail_of arcs k) 0 (v + 1) (v + 1) (omega arith)) in (
        subst (λ l. Sends w l x p z r) (sym (words-append front (end ∷ [])) ∙ ap words e) (sends_both w (words front) (words (end ∷ [])) x y z p q r sent next),
        next_sum ∙ ap (λ i. sum_on i (end ∷ [])) sum ∙ sym (sum_on-append s front (end ∷ [])) ∙ ap (sum_on s) e,
      )

-- ## The whole

-- the words that are sent one after the other are those of the graph
pub sent_words : (n m : ℕ) (g : Graph) (order : IsInOrder g.arcs) → n ≡ g.n → m ≡ length g.arcs → (s : Sum)
    → s ≡ sum_on (sum_on (sum_on no_sum (head_words n m)) (ends_of g)) (arcs_words g.arcs)
    → ((words (head_words n m) ++ words (ends_of g)) ++ words (arcs_words g.arcs)) ++ words (sum_words s) ≡ packed_text g
sent_words n m g order n_is m_is s sum =
    let head = head_words n m in
    let ends = ends_of g in
    let arcs = arcs_words g.arcs in
    let whole : (head ++ ends) ++ arcs ≡ content g.n ends (in_order g.arcs)
    = append_assoc head ends arcs ∙ ap (λ k. head_words k m ++ (ends ++ arcs)) n_is ∙ ap (λ k. head_words g.n k ++ (ends ++ arcs)) m_is
    ∙ ap (λ l. head_words g.n (length l) ++ (ends ++ arcs_words l)) (sym (order_same g.arcs order)) in
    let sum_is : s ≡ sum_on no_sum (content g.n ends (in_order g.arcs))
    = sum ∙ ap (λ v. sum_on v arcs) (sym (sum_on-append no_sum head ends)) ∙ sym (sum_on-append no_sum (head ++ ends) arcs) ∙ ap (sum_on no_sum) whole in
    ap (λ l. (l ++ words arcs) ++ words (sum_words s)) (sym (words-append head ends))
    ∙ ap (λ l. l ++ words (sum_words s)) (sym (words-append (head ++ ends) arcs))
    ∙ ap (λ l. words l ++ words (sum_words s)) whole
    ∙ ap (λ v. words (content g.n ends (in_order g.arcs)) ++ words (sum_words v)) sum_is
    ∙ sym (words-append (content g.n ends (in_order g.arcs)) (sum_words (sum_on no_sum (content g.n ends (in_order g.arcs)))))
    ∙ ap words (sym (words_are g))
