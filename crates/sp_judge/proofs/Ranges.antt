-- What is shown where marks say that the arcs of vertices were relaxed.
use Rattle.std.proofs.Common.{◌≡◌, ◌≢◌, ℕ, zero, suc, ◌+◌, ◌<◌, ◌≤◌, ◌⊎◌, inl, inr, Bool, true, false, List, [], ◌∷◌, ◌++◌, length, get_or, set, replicate, Some, sym, ap, ◌∙◌, subst, arith, get_or-set_other}
use Rattle.std.specs.Prelude.{All, Any, Contains}
use Rattle.std.proofs.lemmas.Bool.{cases_eq, cases_lt}
use Rattle.std.proofs.lemmas.List.Elements.{All-nil, All-contains, Contains-get_or, Contains-append_left, Contains-append_right, Contains-append_cases}
use Rattle.sp_word.specs.Word.{Unreached, Pair, dist_of}
use Rattle.sp_word.specs.History.{Table}
use Rattle.sp_paths.specs.declared.arc.Arc.{Arc}
use Rattle.sp_paths.specs.Paths.{Graph, IsGraph, IsArc, IsAtMost}
use Rattle.sp_paths.specs.Rows.{row_of}
use Rattle.sp_paths.proofs.Core.{pair_dist}
use Rattle.sp_paths.proofs.RowSteps.{in_row, rows_hold_arcs}
use Rattle.sp_graph.specs.declared.marks.Mark.{Mark}
use Rattle.sp_graph.specs.Marks.{IsTrueMark, IsRelaxedWithin}
use Rattle.sp_judge.specs.declared.scan.Scan.{Scan}
use Rattle.sp_judge.specs.declared.scan.Scan.TheVariants.{Whole, LeavesOut, Open}
use Rattle.sp_judge.specs.Shown.{Shows, both_of, IsArcRelaxed, LeadsOut}
use Rattle.sp_judge.specs.Marked.{AreTrueFlags, TakesMarks, ShowsBetween}
use Rattle.sp_judge.proofs.Below.{pair_of}
use Rattle.sp_judge.proofs.Shows.{shows_both}

all_of : (F : Arc → Type 0) (xs ys : List Arc) → ((a : Arc) → Contains ys a → Contains xs a) → All F xs → All F ys
all_of F xs ys back h k d low = All-contains F xs (get_or ys k d) h (back (get_or ys k d) (Contains-get_or ys k d low))

any_of : (F : Arc → Type 0) (xs ys : List Arc) → ((a : Arc) → Contains xs a → Contains ys a) → Any F xs → Any F ys
any_of F xs ys there (k, x, low, is, h) = let c = there x (k, low, is) in (c.0, x, c.1, c.2, h)

one_mark : (F : Mark → Type 0) (mark : Mark) → F mark → All F (mark ∷ [])
one_mark F mark h zero d low = h
one_mark F mark h (suc k) d low = absurd (omega arith)

module _ (max : ℕ) (words : Table) where
  -- lists of the same arcs show the same
  shows_same : (xs ys : List Arc) (s : Scan) → ((a : Arc) → Contains xs a → Contains ys a) → ((a : Arc) → Contains ys a → Contains xs a) → Shows max words xs s → Shows max words ys s
  shows_same xs ys Whole there back h = (all_of (IsArcRelaxed max words) xs ys back h.0, all_of (λ a. LeadsOut words a → ⊥) xs ys back h.1)
  shows_same xs ys (LeavesOut v) there back h = (all_of (IsArcRelaxed max words) xs ys back h.0, any_of (λ a. (a.head ≡ v) × LeadsOut words a) xs ys there h.1, all_of (λ a. LeadsOut words a → v ≤ a.head) xs ys back h.2)
  shows_same xs ys Open there back h = any_of (λ a. IsArcRelaxed max words a → ⊥) xs ys there h

  -- the arc of a vertex that still has the distance at which it was relaxed
  arc_whole : (a : Arc) (d p : ℕ) → words a.tail ≡ Pair d p → IsRelaxedWithin max words d a → IsArcRelaxed max words a × (LeadsOut words a → ⊥)
  arc_whole a d p at h = (λ e q is fits. here e (pair_dist d p e q (sym at ∙ is)), λ out. let (e, q, is, none) = out in rw none at h.1)
    where
      here : (e : ℕ) → d ≡ e → IsAtMost (words a.head) (e + a.len) a.tail
      here e same = subst (λ x. IsAtMost (words a.head) (x + a.len) a.tail) same h.1

  module _ (g : Graph) where
    tail_in : (v k : ℕ) (d : Arc) → k < length (row_of g.arcs v) → (get_or (row_of g.arcs v) k d).tail ≡ v
    tail_in v k d low = (in_row g.arcs v (get_or (row_of g.arcs v) k d) (Contains-get_or (row_of g.arcs v) k d low)).1

    -- the row of a vertex that has the distance of a true mark
    pub mark_whole : (mark : Mark) → IsTrueMark max g words mark → dist_of (words mark.vertex) ≡ Some mark.dist → Shows max words (row_of g.arcs mark.vertex) Whole
    mark_whole mark holds at = (λ k d low. (here k d low).0, λ k d low. (here k d low).1)
      where
        here : (k : ℕ) (d : Arc) → k < length (row_of g.arcs mark.vertex) → IsArcRelaxed max words (get_or (row_of g.arcs mark.vertex) k d) × (LeadsOut words (get_or (row_of g.arcs mark.vertex) k d) → ⊥)
        here k d low =
            let pair = pair_of (words mark.vertex) mark.dist at in
            arc_whole (get_or (row_of g.arcs mark.vertex) k d) mark.dist pair.0 (ap words (tail_in mark.vertex k d low) ∙ pair.1) (holds k d low)

    -- the row of an unreached vertex
    pub unreached_whole : (v : ℕ) → words v ≡ Unreached → Shows max words (row_of g.arcs v) Whole
    unreached_whole v none = (λ k d low e q is fits. absurd (here k d low e q is), λ k d low out. here k d low out.0 out.1 out.2)
      where
        here : (k : ℕ) (d : Arc) → k < length (row_of g.arcs v) → (e q : ℕ) → words (get_or (row_of g.arcs v) k d).tail ≡ Pair e q → ⊥
        here k d low e q is = let both : Unreached ≡ Pair e q = sym none ∙ sym (ap words (tail_in v k d low)) ∙ is in absurd cc

    pub no_flags : (low n : ℕ) → AreTrueFlags max g words low (replicate n false)
    no_flags low zero k is = absurd cc
    no_flags low (suc n) zero is = absurd cc
    no_flags low (suc n) (suc k) is = absurd (none n k is)
      where
        none : (n k : ℕ) → get_or (replicate n false) k false ≡ true → ⊥
        none zero k is = absurd cc
        none (suc n) zero is = absurd cc
        none (suc n) (suc k) is = none n k is

    between_none : (low : ℕ) → ShowsBetween max g words low low Whole
    between_none low = record {
      some = [];
      only = λ a c. absurd (let h = c.1 in omega arith);
      each = λ a c above below. absurd (omega arith);
      shows = (All-nil (IsArcRelaxed max words), All-nil (λ a. LeadsOut words a → ⊥));
    }

    between_row : (low : ℕ) (s : Scan) → Shows max words (row_of g.arcs (low + 1)) s → ShowsBetween max g words low (low + 1) s
    between_row low s h = record {
      some = row_of g.arcs (low + 1);
      only = λ a c. let (there, tail) = in_row g.arcs (low + 1) a c in (there, omega arith, omega arith);
      each = λ a c above below. let tail : a.tail ≡ low + 1 = omega arith in subst (λ u. Contains (row_of g.arcs u) a) tail (((rows_hold_arcs g 0).row a.tail a.head a.len).0 c);
      shows = h;
    }

    -- two ranges, one behind the other
    pub between_both : (low middle high : ℕ) (s t r : Scan) → low ≤ middle → middle ≤ high → ShowsBetween max g words low middle s → ShowsBetween max g words middle high t → r ≡ both_of s t → ShowsBetween max g words low high r
    between_both low middle high s t r up on first second is = record {
      some = first.some ++ second.some;
      only = λ a c. only a (Contains-append_cases first.some second.some a c);
      each = λ a c above below. each a c above below (cases_lt middle a.tail);
      shows = subst (Shows max words (first.some ++ second.some)) (sym is) (shows_both max words first.some second.some s t first.shows second.shows);
    }
      where
        only : (a : Arc) → Contains first.some a ⊎ Contains second.some a → Contains g.arcs a × (low < a.tail) × (a.tail ≤ high)
        only a (inl c) = let h = first.only a c in (h.0, h.1, omega (arith, h.2))
        only a (inr c) = let h = second.only a c in (h.0, omega (arith, h.1), h.2)

        each : (a : Arc) → Contains g.arcs a → low < a.tail → a.tail ≤ high → (middle < a.tail) ⊎ (a.tail ≤ middle) → Contains (first.some ++ second.some) a
        each a c above below (inl later) = Contains-append_right first.some second.some a (second.each a c later below)
        each a c above below (inr sooner) = Contains-append_left first.some second.some a (first.each a c above sooner)

    -- a range, and the row of the vertex behind it
    pub between_next : (low place : ℕ) (s t r : Scan) → ShowsBetween max g words low (low + place) s → Shows max words (row_of g.arcs (low + place + 1)) t → r ≡ both_of s t → ShowsBetween max g words low (low + (place + 1)) r
    between_next low place s t r first row is =
        let next : low + place + 1 ≡ low + (place + 1) = omega arith in
        subst (λ high. ShowsBetween max g words low high r) next (between_both low (low + place) (low + place + 1) s t r (omega arith) (omega arith) first (between_row (low + place) t row) is)

    -- all vertices
    pub between_all : (s : Scan) → IsGraph g → ShowsBetween max g words 0 g.n s → Shows max words g.arcs s
    between_all s gr h = shows_same h.some g.arcs s (λ a c. (h.only a c).0) (λ a c. let arc : IsArc g.n a = All-contains (IsArc g.n) g.arcs a gr c in h.each a c (omega (arith, arc.0.0)) arc.0.1) h.shows

  -- one flag more
  pub takes_mark : (low : ℕ) (mark : Mark) (place : ℕ) (flags : List Bool) → low + place + 1 ≡ mark.vertex → dist_of (words mark.vertex) ≡ Some mark.dist → TakesMarks max words low (mark ∷ []) flags (set flags place true)
  takes_mark low mark place flags is at g marks before k there = go (cases_eq k place)
    where
      go : (k ≡ place) ⊎ (k ≢ place) → Shows max words (row_of g.arcs (low + k + 1)) Whole
      go (inl same) = let here : mark.vertex ≡ low + k + 1 = omega arith in subst (λ v. Shows max words (row_of g.arcs v) Whole) here (mark_whole g mark (marks 0 mark (omega arith)) at)
      go (inr other) = before k (rw get_or-set_other at there)

  -- the marks of a list so far, and the next one
  pub takes_next : (low : ℕ) (marks : List Mark) (i : ℕ) (d : Mark) (first before after : List Bool) → i < length marks → TakesMarks max words low marks first before → TakesMarks max words low (get_or marks i d ∷ []) before after → TakesMarks max words low marks first after
  takes_next low marks i d first before after inside so_far next g all flags = next g (one_mark (IsTrueMark max g words) (get_or marks i d) (all i d inside)) (so_far g all flags)
