-- The marks of a team, in a copy of the words that was made behind it.
use Rattle.std.proofs.Common.{◌≡◌, ℕ, ◌<◌, ◌≤◌, inl, inr, List, length, get_or, arith}
use Rattle.std.specs.Prelude.{All, Vec}
use Rattle.std.specs.declared.alloc.Global.{Global}
use Rattle.std.proofs.lemmas.List.Elements.{All-contains, All-weaker, Contains-get_or}
use Rattle.sp_word.specs.Word.{Word, Unreached, Pair}
use Rattle.sp_word.specs.History.{Table}
use Rattle.sp_paths.specs.Paths.{Graph, IsGraph, IsArc, IsAtMost, word_at}
use Rattle.sp_paths.specs.Rows.{row_of}
use Rattle.sp_paths.proofs.RowSteps.{in_row}
use Rattle.sp_graph.specs.declared.marks.Mark.{Mark}
use Rattle.sp_graph.specs.Marks.{IsTrueMark}
use Rattle.sp_offer.specs.Order.{IsNoMore}
use Rattle.sp_judge.specs.Marked.{AreTrueMarks}

-- what is no more than a word is at most what that is
at_most_too : (w x : Word) (d p : ℕ) → IsNoMore w x → IsAtMost x d p → IsAtMost w d p
at_most_too w Unreached d p less most = absurd most
at_most_too Unreached (Pair e q) d p less most = absurd less
at_most_too (Pair c o) (Pair e q) d p (inl less) (inl most) = inl (omega arith)
at_most_too (Pair c o) (Pair e q) d p (inl less) (inr most) = inl (let k = most.0 in omega arith)
at_most_too (Pair c o) (Pair e q) d p (inr less) (inl most) = inl (let k = less.0 in omega arith)
at_most_too (Pair c o) (Pair e q) d p (inr less) (inr most) = inr (let k = less.0 in let l = most.0 in omega arith, let k = less.1 in let l = most.1 in omega arith)

-- marks that were true in a table are true in a copy whose words are no more
module _ (max : ℕ) (g : Graph) (gr : IsGraph g) (known : Table) (words : List Word) (size : length words ≡ g.n) (below : (v : ℕ) → 0 < v → v ≤ length words → IsNoMore (word_at words v) (known v)) where
  mark_copied : (mark : Mark) → IsTrueMark max g known mark → IsTrueMark max g (word_at words) mark
  mark_copied mark holds k d low =
      let a = get_or (row_of g.arcs mark.vertex) k d in
      let here = in_row g.arcs mark.vertex a (Contains-get_or (row_of g.arcs mark.vertex) k d low) in
      let arc : IsArc g.n a = All-contains (IsArc g.n) g.arcs a gr here.0 in
      let was = holds k d low in
      let high : a.head ≤ length words = omega (arith, arc.1.1, size) in
      (was.0, at_most_too (word_at words a.head) (known a.head) _ _ (below a.head (omega (arith, arc.1.0)) high) was.1)

  pub marks_copied : (marks : List (Vec Mark Global)) → AreTrueMarks max g known marks → AreTrueMarks max g (word_at words) marks
  marks_copied = All-weaker (λ list. All (IsTrueMark max g known) list.items) (λ list. All (IsTrueMark max g (word_at words)) list.items)
      (λ list. All-weaker (IsTrueMark max g known) (IsTrueMark max g (word_at words)) mark_copied list.items)
