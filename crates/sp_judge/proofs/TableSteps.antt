-- The words before the first pass, between two passes, and behind the last.
use Rattle.std.proofs.Common.{◌≡◌, ℕ, zero, suc, ◌-◌, ◌<◌, ◌⊎◌, inl, inr, Bool, false, List, [], ◌∷◌, length, replicate, Some, None, refl, sym, ◌∙◌, subst, arith, length-set}
use Rattle.std.specs.Prelude.{All, Contains}
use Rattle.std.proofs.lemmas.Bool.{cases_eq}
use Rattle.std.proofs.lemmas.List.{length-replicate, get_or-replicate}
use Rattle.std.proofs.lemmas.List.Elements.{All-set}
use Rattle.sp_word.specs.Word.{Word, Unreached, Pair, max_dist}
use Rattle.sp_paths.specs.declared.arc.Arc.{Arc}
use Rattle.sp_paths.specs.Paths.{Graph, IsVertex, IsTree, IsFar, IsClosed, IsWithin, word_at}
use Rattle.sp_graph.specs.LeftOut.{network}
use Rattle.sp_paths.specs.Forests.{IsLawful}
use Rattle.sp_paths.specs.ForestLaws.{OneSource}
use Rattle.sp_answer.specs.Run.{AreWholeWords}
use Rattle.sp_paths.proofs.OneForest.{forest_of_one_is_tree}
use Rattle.sp_judge.specs.Passing.{IsSmall, IsSmallTable}
use Rattle.sp_judge.specs.Lowering.{IsLowered}
use Rattle.sp_judge.specs.Several.{IsTableOfAny}
use Rattle.sp_judge.specs.Answer.{first_words}
use Rattle.sp_judge.proofs.PassSteps.{word_other, word_same}

-- what holds between two passes
pub record IsRelaxing (n max : ℕ) (arcs : List Arc) (initial words : List Word) (changed : Bool) : Type 0 where
  pub size : length words ≡ n
  pub small : IsSmallTable max words
  pub lowered : IsLowered max arcs initial words
  pub closed : changed ≡ false → IsClosed (network n arcs) max (word_at words)

pub small_within : (n max : ℕ) (words : List Word) → length words ≡ n → IsSmallTable max words → IsWithin n max (word_at words)
small_within n max words size small v d p h e = let at : IsSmall (length words) max (Pair d p) = rw e at (small (v - 1) Unreached (omega arith)) in at.0

one_source : (s v : ℕ) → Contains (s ∷ []) v → s ≡ v
one_source s v (zero, low, is) = is
one_source s v (suc k, low, is) = absurd (omega (arith, low))

pub one_vertex : (n s : ℕ) → IsVertex n s → All (IsVertex n) (s ∷ [])
one_vertex n s h zero d low = h
one_vertex n s h (suc k) d low = absurd (omega (arith, low))

-- the words before the first pass are of walks from the source
pub first_table : (g : Graph) (s max : ℕ) → IsVertex g.n s → IsTableOfAny g (s ∷ []) max (first_words g.n s)
first_table g s max h = record {
  size = size;
  small = subst (λ (n : ℕ). All (IsSmall n max) (first_words g.n s)) (sym size) (All-set (IsSmall g.n max) (replicate g.n Unreached) (s - 1) (Pair 0 0) (omega arith, omega arith) none);
  table = record {
    lawful = λ v k. lawful v k (cases_eq v s);
    own = λ v there. let same = one_source s v there in subst (λ (x : ℕ). word_at (first_words g.n s) x ≡ Pair 0 0) same here;
  };
}
  where
    size : length (first_words g.n s) ≡ g.n
    size = length-set (replicate g.n Unreached) (s - 1) (Pair 0 0) ∙ length-replicate g.n Unreached

    none : All (IsSmall g.n max) (replicate g.n Unreached)
    none k d low = let inside : k < g.n = omega (arith, low, length-replicate g.n Unreached) in subst (IsSmall g.n max) (sym (get_or-replicate g.n k Unreached d inside)) tt

    here : word_at (first_words g.n s) s ≡ Pair 0 0
    here = word_same (replicate g.n Unreached) s (Pair 0 0) h.0 (omega (arith, h, length-replicate g.n Unreached))

    lawful : (v : ℕ) → IsVertex g.n v → (v ≡ s) ⊎ (v ≡ s → ⊥) → IsLawful g (s ∷ []) v (word_at (first_words g.n s) v)
    lawful v k (inl same) = rw same (rw here (inl ((0, omega arith, refl), refl, refl)))
    lawful v k (inr other) =
        let unreached : word_at (first_words g.n s) v ≡ Unreached = word_other (replicate g.n Unreached) s v (Pair 0 0) h.0 k.0 other ∙ get_or-replicate g.n (v - 1) Unreached Unreached (omega (arith, k)) in
        rw unreached tt

-- what a whole run from one source tells
module _ (P : ℕ) (g : Graph) (s : ℕ) (words : List Word) where
  law : OneSource g s
  law = forest_of_one_is_tree g s

  pub whole_tree : AreWholeWords P g s words None → IsTree g s (word_at words) × IsFar g s (max_dist P) None
  whole_tree are = ((law.forest (word_at words)).0 are.tells.0, (law.far (max_dist P) None).0 are.tells.1)

  pub whole_far : (v : ℕ) → AreWholeWords P g s words (Some v) → IsFar g s (max_dist P) (Some v)
  whole_far v are = (law.far (max_dist P) (Some v)).0 are.tells
