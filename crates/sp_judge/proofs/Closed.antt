-- Words in which the arcs are relaxed, all of them or those within a distance, and what they leave out.
use Rattle.std.proofs.Common.{◌≡◌, ℕ, ◌≤◌, List, length, get_or, Option, ap, ◌∙◌, subst, arith}
use Rattle.std.proofs.lemmas.List.{get_or_default}
use Rattle.std.proofs.lemmas.List.Elements.{All-contains}
use Rattle.sp_word.specs.Word.{Word}
use Rattle.sp_paths.specs.declared.arc.Arc.{Arc}
use Rattle.sp_paths.specs.Paths.{Graph, IsGraph, IsClosed, word_at}
use Rattle.sp_paths.specs.Rows.{row_of, IsArcRelaxed}
use Rattle.sp_paths.proofs.Walks.{arc_in}
use Rattle.sp_paths.proofs.RowSteps.{rows_hold_arcs, in_row}
use Rattle.sp_graph.specs.LeftOut.{network, IsLeastLeftOut}
use Rattle.sp_judge.specs.Shown.{IsClosedUpTo}

-- where every arc is relaxed, those up to any distance are
pub closed_up_to : (g : Graph) (max far : ℕ) (words : List Word) → IsClosed g max (word_at words) → IsClosedUpTo g max far (word_at words)
closed_up_to g max far words closed u at d p is low k none here fits =
    let arc : Arc = get_or (row_of g.arcs u) k none in
    let there = in_row g.arcs u arc (k, here, get_or_default (row_of g.arcs u) k arc none here) in
    closed arc.tail arc.head arc.len there.0 d p (ap (λ x. word_at words x) there.1 ∙ is) fits

module _ (g : Graph) (graph : IsGraph g) (max limit : ℕ) (most : limit ≤ max) (words : List Word) (closed : IsClosedUpTo g max limit (word_at words)) where
  -- every arc is relaxed up to the limit
  pub closed_within : IsClosed g limit (word_at words)
  closed_within u v l a d p is fits =
      let at = (arc_in g graph u v l a).0 in
      let row = closed u at d p is (omega arith) in
      All-contains (IsArcRelaxed max (word_at words) d) (row_of g.arcs u) (record { tail = u; head = v; len = l }) row (((rows_hold_arcs g 1).row u v l).0 a) (omega arith)

-- what is left out of words that a slice shows
pub left_of : (g : Graph) (words slice : List Word) (arcs : List Arc) (left : Option ℕ) → slice ≡ words → arcs ≡ g.arcs → length words ≡ g.n → IsLeastLeftOut (network (length slice) arcs) (word_at slice) left → IsLeastLeftOut g (word_at words) left
left_of g words slice arcs left same is size h =
    let shown : IsLeastLeftOut (network (length words) arcs) (word_at words) left = subst (λ (ws : List Word). IsLeastLeftOut (network (length ws) arcs) (word_at ws) left) same h in
    let counted : IsLeastLeftOut (network g.n arcs) (word_at words) left = subst (λ (n : ℕ). IsLeastLeftOut (network n arcs) (word_at words) left) size shown in
    subst (λ (xs : List Arc). IsLeastLeftOut (network g.n xs) (word_at words) left) is counted
