-- Words of walks, which arcs have lowered.
use Rattle.std.proofs.Common.{◌≡◌, ℕ, ◌+◌, ◌-◌, ◌<◌, ◌≤◌, ◌⊎◌, inl, inr, List, [], ◌∷◌, length, get_or, set, sym, subst, ap, ◌∙◌, arith, length-set}
use Rattle.std.specs.Prelude.{All, Contains}
use Rattle.std.proofs.lemmas.Bool.{cases_eq}
use Rattle.std.proofs.lemmas.List.{get_or_default}
use Rattle.std.proofs.lemmas.List.Elements.{All-contains, All-set}
use Rattle.sp_word.specs.Word.{Word, Unreached, Pair}
use Rattle.sp_paths.specs.declared.arc.Arc.{Arc}
use Rattle.sp_paths.specs.Paths.{Graph, IsGraph, IsArc, IsVertex, IsAtMost, IsClosed, IsWithin, word_at}
use Rattle.sp_paths.proofs.Walks.{arc_in, walk_by_parts}
use Rattle.sp_graph.specs.LeftOut.{network}
use Rattle.sp_paths.specs.Forests.{HasWalkFromAnyBy, IsLawful, IsTableFrom}
use Rattle.sp_paths.proofs.ForestWalks.{any_by, lawful_walk}
use Rattle.sp_judge.specs.Passing.{IsLesserOffer, IsSmall}
use Rattle.sp_judge.specs.Lowering.{Step, AreSteps, IsLowered}
use Rattle.sp_judge.specs.Several.{IsTableOfAny, IsFinishedTableOfAny}
use Rattle.sp_judge.proofs.Below.{pair_of, below_not}
use Rattle.sp_judge.proofs.PassSteps.{word_other, word_same}
use Rattle.sp_judge.proofs.TableSteps.{small_within}

module _ (g : Graph) (fine : IsGraph g) (max : ℕ) where
  ends : (words : List Word) → length words ≡ g.n → (arc : Arc) → Contains g.arcs arc → IsArc (length words) arc
  ends words size arc here = subst (λ n. IsArc n arc) (sym size) (All-contains (IsArc g.n) g.arcs arc fine here)

  module _ (sources : List ℕ) where
    -- a word that an arc lowers is of a walk from a source still
    any_set : (words : List Word) (arc : Arc) (w : Word) → Contains g.arcs arc → IsLesserOffer max (word_at words arc.tail) arc (word_at words arc.head) w → IsTableOfAny g sources max words → ((s : ℕ) → Contains sources s → IsVertex g.n s)
        → IsTableOfAny g sources max (set words (arc.head - 1) w)
    any_set words arc w here lesser t vertices = record {
      size = length-set words (arc.head - 1) w ∙ t.size;
      small = subst (λ n. All (IsSmall n max) (set words (arc.head - 1) w)) (sym (length-set words (arc.head - 1) w)) (All-set (IsSmall (length words) max) words (arc.head - 1) w (rw lesser.3 (lesser.2, in'.0.1)) t.small);
      table = record { lawful = λ v h. lawful v h (cases_eq v arc.head); own = λ s there. own s there (cases_eq s arc.head) };
    }
      where
        in' : IsArc (length words) arc
        in' = ends words t.size arc here

        tail : IsVertex g.n arc.tail
        tail = subst (λ n. IsVertex n arc.tail) t.size in'.0

        by : HasWalkFromAnyBy g sources arc.head (lesser.0 + arc.len) arc.tail
        by =
            let from = pair_of (word_at words arc.tail) lesser.0 lesser.1 in
            any_by g sources arc.tail arc.head lesser.0 arc.len (lawful_walk g sources arc.tail lesser.0 from.0 (subst (IsLawful g sources arc.tail) from.1 (t.table.lawful arc.tail tail))) here

        new : IsLawful g sources arc.head w
        new = rw lesser.3 (inr by)

        lawful : (v : ℕ) → IsVertex g.n v → (v ≡ arc.head) ⊎ (v ≡ arc.head → ⊥) → IsLawful g sources v (word_at (set words (arc.head - 1) w) v)
        lawful v h (inl same) = rw same (rw (word_same words arc.head w in'.1.0 in'.1.1) new)
        lawful v h (inr other) = rw (word_other words arc.head v w in'.1.0 h.0 other) (t.table.lawful v h)

        no_less : (word_at words arc.head ≡ Pair 0 0) → ⊥
        no_less e =
            let at_most : IsAtMost (Pair 0 0) (lesser.0 + arc.len) arc.tail = inl (omega (arith, in'.2)) in
            below_not (word_at words arc.head) (lesser.0 + arc.len) arc.tail (rw lesser.3 at lesser.4) (rw e at_most)

        own : (s : ℕ) → Contains sources s → (s ≡ arc.head) ⊎ (s ≡ arc.head → ⊥) → word_at (set words (arc.head - 1) w) s ≡ Pair 0 0
        own s there (inl same) = absurd (no_less (rw same at (t.table.own s there)))
        own s there (inr other) = word_other words arc.head s w in'.1.0 (vertices s there).0 other ∙ t.table.own s there

    steps_keep_any : ((s : ℕ) → Contains sources s → IsVertex g.n s) → (steps : List Step) (before after : List Word) → AreSteps max g.arcs steps before after → IsTableOfAny g sources max before → IsTableOfAny g sources max after
    steps_keep_any vertices [] before after is t = subst (IsTableOfAny g sources max) (sym is) t
    steps_keep_any vertices (x ∷ xs) before after h t =
        steps_keep_any vertices xs (set before (x.0.head - 1) x.1) after h.2 (any_set before x.0 x.1 h.0 h.1 t vertices)

    -- words lowered from walks of the sources are such ones
    pub lowered_any : All (IsVertex g.n) sources → (before after : List Word) → IsLowered max g.arcs before after → IsTableOfAny g sources max before → IsTableOfAny g sources max after
    lowered_any vertices before after h t = steps_keep_any (λ s there. All-contains (IsVertex g.n) sources s vertices there) h.0 before after h.1 t

    -- what the passes leave of a table of walks
    pub any_finished : All (IsVertex g.n) sources → (before words : List Word) → IsTableOfAny g sources max before → IsLowered max g.arcs before words → IsClosed (network (length before) g.arcs) max (word_at words) → IsFinishedTableOfAny g sources max words
    any_finished vertices before words t lowered closed =
        let after = lowered_any vertices before words lowered t in
        record {
          size = after.size;
          small = after.small;
          finished = record {
            all = record { graph = fine; vertices = vertices; table = after.table; closed = subst (λ n. IsClosed (network n g.arcs) max (word_at words)) t.size closed };
            within = small_within g.n max words after.size after.small;
          };
        }

-- ## Any table of walks

pred_within : (g : Graph) → IsGraph g → (sources : List ℕ) (v d p : ℕ) → IsLawful g sources v (Pair d p) → p ≤ g.n
pred_within g fine sources v d p (inl own) = let zero = own.2 in omega arith
pred_within g fine sources v d p (inr (s, here, by)) = let parts = walk_by_parts g s v d p by in (arc_in g fine p v parts.1 parts.3).0.1

-- words of walks from the sources, within max, are such a table
module _ (g : Graph) (fine : IsGraph g) (sources : List ℕ) (max : ℕ) (words : List Word) (size : length words ≡ g.n) (table : IsTableFrom g sources (word_at words)) (within : IsWithin g.n max (word_at words)) where
  small_word : (v : ℕ) → IsVertex g.n v → (w : Word) → word_at words v ≡ w → IsSmall g.n max w
  small_word v at Unreached is = tt
  small_word v at (Pair d p) is = (within v d p at is, pred_within g fine sources v d p (subst (IsLawful g sources v) is (table.lawful v at)))

  small_there : (k : ℕ) (d : Word) → k < length words → IsSmall g.n max (get_or words k d)
  small_there k d low =
      let at : IsVertex g.n (k + 1) = (omega arith, omega arith) in
      let there : k + 1 - 1 ≡ k = omega arith in
      let is : word_at words (k + 1) ≡ get_or words k d = ap (λ i. get_or words i Unreached) there ∙ get_or_default words k Unreached d low in
      small_word (k + 1) at (get_or words k d) is

  pub any_table : IsTableOfAny g sources max words
  any_table = record {
    size = size;
    small = λ k d low. subst (λ n. IsSmall n max (get_or words k d)) (sym size) (small_there k d low);
    table = table;
  }
