-- Packed texts, and what is the same in both forms.
use Rattle.std.proofs.Common.{◌≡◌, ℕ, Bool, true, false, List, [], Option, Some, Ok, refl, sym, subst, ap, ◌∙◌, arith}
use Rattle.std.specs.Prelude.{slice_index, map}
use Rattle.std.specs.List.Sorted.{IsPermutation}
use Rattle.std.proofs.lemmas.List.Sorted.{IsPermutation-refl}
use Rattle.sp_word.specs.Word.{max_pred}
use Rattle.sp_device.specs.Failing.{Failing}
use Rattle.sp_paths.specs.declared.arc.Arc.{Arc}
use Rattle.sp_paths.specs.Paths.{Graph}
use Rattle.sp_text.specs.Lines.{lines}
use Rattle.sp_text.specs.Text.{items_of}
use Rattle.sp_dimacs.specs.Formats.{gr_up_to}
use Rattle.sp_dimacs.specs.declared.graphs.GrFile.{GrFile}
use Rattle.sp_dimacs.specs.Graph.{arc_of, SpellsUpTo, ReadUpTo, IsNetworkUpTo, graph_of}
use Rattle.sp_packed.specs.Words.{word}
use Rattle.sp_packed.specs.Packed.{is_packed, head_words, packed_words, packed_text, IsPackable, IsWithin}
use Rattle.sp_packed.proofs.TextLaws.{one_graph}
use Rattle.sp_network.specs.Network.{SpellsPacked, SpellsAs, SpellsNetwork, Answered}
use Rattle.sp_network.proofs.LineForm.{lines_unpacked}

pub text_packed : (g : Graph) → is_packed (packed_text g) ≡ true
unfolding packed_words head_words word
text_packed g = refl

pub packed_network : (P most : ℕ) (text : List ℕ) (file : GrFile) → SpellsPacked P most text file → IsNetworkUpTo P most file
packed_network P most text file h = record { least = h.packable.some; most = h.within.n; short = h.within.arcs; arcs = h.packable.graph }

-- What a text spells in a form, it spells in the form that its first byte shows.
as_shown : (shown packed : Bool) (P most : ℕ) (text : List ℕ) (file : GrFile) → shown ≡ packed → SpellsAs packed P most text file → SpellsAs shown P most text file
as_shown shown packed P most text file is h = subst (λ form. SpellsAs form P most text file) (sym is) h

pub lines_spelled : (P most : ℕ) (text : List ℕ) (file : GrFile) → SpellsUpTo P most text file → SpellsNetwork P most text file
lines_spelled P most text file h = as_shown (is_packed text) false P most text file (lines_unpacked P most text file h) h

pub words_spelled : (P most : ℕ) (text : List ℕ) (file : GrFile) → SpellsPacked P most text file → SpellsNetwork P most text file
words_spelled P most text file h = as_shown (is_packed text) true P most text file (subst (λ t. is_packed t ≡ true) h.is (text_packed (graph_of file))) h

-- ## A text spells one network

some_same : {A : Type 0} (x y : A) → Some x ≡ Some y → x ≡ y
some_same x y e = grind (arith, e)

same_arcs : (xs ys : List Arc) → xs ≡ ys → IsPermutation xs ys
same_arcs xs ys e = subst (λ l. IsPermutation xs l) e (IsPermutation-refl xs)

one_as : (packed : Bool) (P most : ℕ) (text : List ℕ) (f g : GrFile) → SpellsAs packed P most text f → SpellsAs packed P most text g → (f.n ≡ g.n) × IsPermutation f.arcs.items g.arcs.items
one_as true P most text f g h k = one_graph (graph_of f) (graph_of g) h.packable k.packable (h.is ∙ sym k.is)
one_as false P most text f g (ps, items, h, is) (qs, others, k, its) =
    let problem : ps ≡ qs = some_same ps qs (sym h.problem_line ∙ k.problem_line) in
    let lines : items ≡ others = sym h.item_lines ∙ k.item_lines in
    (is.0 ∙ ap (λ l. slice_index l 0) problem ∙ sym its.0, same_arcs f.arcs.items g.arcs.items (is.1 ∙ ap (λ l. map arc_of l) lines ∙ sym its.1))

pub one_network : (P most : ℕ) (text : List ℕ) (f g : GrFile) → SpellsNetwork P most text f → SpellsNetwork P most text g → (f.n ≡ g.n) × IsPermutation f.arcs.items g.arcs.items
one_network P most text f g h k = one_as (is_packed text) P most text f g h k

-- ## What was read

module _ (P most : ℕ) (old new : Option (List ℕ)) (has_failed : Bool) (failing : Failing) (file : GrFile) where
  -- as a packed text
  pub answered_words : IsPackable (graph_of file) → IsWithin (max_pred P) most (graph_of file)
      → ((text : List ℕ) → old ≡ Some text → (new ≡ Some []) × (text ≡ packed_text (graph_of file))) → Answered true P most old new has_failed failing (Ok file)
  answered_words packable within exact =
      let spells : SpellsPacked P most (packed_text (graph_of file)) file = record { packable = packable; within = within; is = refl } in
      record {
        exact = λ text is. let whole = exact text is in (whole.0, record { packable = packable; within = within; is = sym whole.1 });
        found = (packed_text (graph_of file), words_spelled P most (packed_text (graph_of file)) file spells);
        network = packed_network P most (packed_text (graph_of file)) file spells;
        read = tt;
        never = λ _. tt;
      }

  -- as lines
  pub answered_lines : ((text : List ℕ) → old ≡ Some text → ReadUpTo P most text new has_failed (Ok file))
      → ((text : List ℕ) × SpellsUpTo P most text file) → IsNetworkUpTo P most file → Answered false P most old new has_failed failing (Ok file)
  answered_lines exact (found, spells) network = record {
    exact = λ text is.
        let read = exact text is in
        let by = read.2 in
        (read.0, (by.0, items_of (gr_up_to most) (lines text), record { faultless = read.1; problem_line = by.1; item_lines = refl }, by.2));
    found = (found, lines_spelled P most found file spells);
    network = network;
    read = tt;
    never = λ _. tt;
  }
