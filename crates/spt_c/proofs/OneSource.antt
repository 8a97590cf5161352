-- One source alone, and slices that hold the same.
use Rattle.std.proofs.Common.{◌≡◌, ◌<◌, ◌≤◌, ◌+◌, ◌-◌, ◌*◌, inl, inr, ℕ, [], ◌∷◌, List, ◌++◌, length, take, drop, Some, refl, sym, subst, arith}
use Rattle.std.proofs.Math.Nat.{zero-mul}
use Rattle.std.proofs.Math.Seq.{take-append_seam}
use Rattle.std.proofs.lemmas.Option.{slice_get_within}
use Rattle.std.specs.Prelude.{slice_get, slice_index}
use Rattle.sp_paths.specs.Paths.{Graph, IsFar}
use Rattle.sp_paths.specs.Bags.{AreSame}
use Rattle.sp_lists.specs.declared.outcomes.Outcome.{Outcome}
use Rattle.sp_lists.specs.declared.outcomes.Outcome.TheVariants.{Done, TooFar, Memory}
use Rattle.sp_lists.specs.declared.outcomes.BatchOutcome.{BatchOutcome}
use Rattle.sp_lists.specs.Limits.{reach}
use Rattle.sp_lists.specs.Blocks.{Slices, IsCell, HasSameAt, HasTreeAt, KeepsFrom, HasNone, EndsBy, AreSolved}
use Rattle.spt_c.specs.declared.arcs.SptArc.{SptArc}
use Rattle.spt_c.specs.Arcs.{graph_of}
use Rattle.spt_c.specs.Asked.{asked}
use Rattle.spt_c.specs.Outcome.{answer_of, IsTold}
use Rattle.spt_c.proofs.Same.{same_solved}

-- A list of one source has no other.
only : (x s k : ℕ) → slice_get (x ∷ []) k ≡ Some s → s ≡ x
only x s k e =
    let within : k < length (x ∷ []) = slice_get_within (x ∷ []) k s e in
    let first : k ≡ 0 = omega arith in
    let here : Some x ≡ Some s = subst (λ j. slice_get (x ∷ []) j ≡ Some s) first e in
    cc

none_of : (max : ℕ) (g : Graph) (s done : ℕ) (told : Outcome) → (told ≡ Done → ⊥) → EndsBy max g (s ∷ []) done told → HasNone max g s told
none_of max g s done Done not is = absurd (not refl)
none_of max g s done (TooFar v) not is = subst (λ x. IsFar g x max (Some v)) (only s is.0 done is.1) is.2
none_of max g s done Memory not is = tt
none_of max g s done told not is = absurd is

-- Why one source isn't done is why it has no tree.
pub no_tree : (max : ℕ) (g h : Graph) (s : ℕ) (old new : Slices) (b : BatchOutcome) → AreSame g h → AreSolved max g (s ∷ []) old new b → (b.told ≡ Done → ⊥) → HasNone max h s b.told
no_tree max g h s old new b same is not = none_of max h s b.done b.told not (same_solved max g h (s ∷ []) old new b same is).1

done_one : (max : ℕ) (g : Graph) (s done : ℕ) (told : Outcome) → told ≡ Done → EndsBy max g (s ∷ []) done told → done ≡ 1
done_one max g s done told e is = subst (EndsBy max g (s ∷ []) done) e is

-- One source that is done has its tree at the front.
pub the_tree : (max : ℕ) (g h : Graph) (s : ℕ) (old new : Slices) (b : BatchOutcome) → AreSame g h → AreSolved max g (s ∷ []) old new b → b.told ≡ Done → HasTreeAt max h s 0 new
the_tree max g h s old new b same is e =
    let solved : AreSolved max h (s ∷ []) old new b = same_solved max g h (s ∷ []) old new b same is in
    let one : b.done ≡ 1 = done_one max h s b.done b.told e solved.1 in
    let some : 0 < b.done = omega (arith, one) in
    subst (λ low. HasTreeAt max h s low new) (zero-mul h.n) (solved.0.trees 0 s some refl)

-- Slices that hold the same hold the tree.
pub same_there : (max : ℕ) (g : Graph) (s : ℕ) (right there : Slices) → HasTreeAt max g s 0 right → ((k : ℕ) → k < g.n → HasSameAt right there k) → HasTreeAt max g s 0 there
same_there max g s right there is same = record {
  words = is.words;
  tree = is.tree;
  far = is.far;
  cells = λ v vertex.
      let a : 1 ≤ v = vertex.0 in
      let b : v ≤ g.n = vertex.1 in
      let within : 0 + (v - 1) < g.n = omega arith in
      let both : HasSameAt right there (0 + (v - 1)) = same (0 + (v - 1)) within in
      let D : ℕ → Type 0 = λ x. IsCell (is.words v) x (slice_index there.pred (0 + (v - 1))) in
      let E : ℕ → Type 0 = λ x. IsCell (is.words v) (slice_index right.dist (0 + (v - 1))) x in
      subst D (sym both.0) (subst E (sym both.1) (is.cells v vertex));
}

-- A list whose places were all written holds what was written.
pub all_written : (m : ℕ) (new old : List ℕ) → m ≡ length new → take m (new ++ drop (length new) old) ≡ new
all_written m new old e = subst (λ k. take k (new ++ drop (length new) old) ≡ new) (sym e) (take-append_seam new (drop (length new) old))

-- ## A call for one source that tells of no tree writes nothing

none_done : (max : ℕ) (g : Graph) (s done : ℕ) (told : Outcome) → EndsBy max g (s ∷ []) done told → ((answer_of told).status ≡ 0 → ⊥) → done ≡ 0
none_done max g s done Done is not = absurd (not refl)
none_done max g s done (TooFar v) is not = let within : done < length (s ∷ []) = slice_get_within (s ∷ []) done is.0 is.1 in omega arith
none_done max g s done Memory (inl low) not = omega (arith, low)
none_done max g s done Memory (inr none) not = none
none_done max g s done told is not = absurd is

pub nothing_written : (arcs : List SptArc) (n s delta : ℕ) (old new : Slices) (b : BatchOutcome) → IsTold (asked arcs n (s ∷ []) delta) old new b → ((answer_of b.told).status ≡ 0 → ⊥) → KeepsFrom 0 old new
nothing_written arcs n s delta old new b (inl refused) not = subst (KeepsFrom 0 old) (sym refused.same) (λ k low. (refl, refl))
nothing_written arcs n s delta old new b (inr answer) not =
    let none : b.done ≡ 0 = none_done (reach n) (graph_of n arcs) s b.done b.told answer.solved.1 not in
    let F : ℕ → Type 0 = λ done. KeepsFrom (done * n) old new in
    let from : KeepsFrom (0 * n) old new = subst F none answer.solved.0.rest in
    let L : ℕ → Type 0 = λ low. KeepsFrom low old new in
    subst L (zero-mul n) from
