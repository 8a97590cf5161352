-- The route to a target of a source.
use Rattle.std.proofs.Common.{◌≡◌, ℕ, ◌<◌, ◌≤◌, List, [], ◌∷◌, length, get_or, Option, Some, None, sym, subst, arith}
use Rattle.std.specs.Prelude.{All}
use Rattle.std.proofs.lemmas.List.Elements.{All-nil, All-cons}
use Rattle.sp_word.specs.Word.{Word, Unreached, Pair, max_dist}
use Rattle.sp_paths.specs.Paths.{Graph, IsVertex, IsLeast, IsPair, Found, word_at}
use Rattle.sp_paths.specs.Forests.{IsForestWord, IsNear as IsNearAny}
use Rattle.sp_paths.specs.Routes.{LeadBack}
use Rattle.sp_answer.specs.Pair.{answer_by}
use Rattle.sp_answer.specs.Run.{IsTold, IsFinalUpTo, AreTargetWords}
use Rattle.sp_paths.proofs.OneForest.{least_of, word_to}
use Rattle.sp_paths.proofs.Only.{tree_pair_least}
use Rattle.sp_paths.proofs.Walks.{least_same}
use Rattle.sp_answer.proofs.TargetAnswers.{told_to}

-- The word of an answer that is found.
pair_of : (w : Word) (far : Option ℕ) (d p : ℕ) → Found d p ≡ answer_by w far → w ≡ Pair d p
pair_of (Pair e q) far d p by = cc
pair_of Unreached None d p by = absurd (cc)
pair_of Unreached (Some v) d p by = absurd (cc)

module _ (P : ℕ) (g : Graph) (s t : ℕ) (words : List Word) (far : Option ℕ) (are : AreTargetWords P g s (t ∷ []) words far) where
  -- the words lead back from a target that is reached
  back : (d p : ℕ) → word_at words t ≡ Pair d p → IsLeast g s t d → LeadBack g s t words
  back d p is least =
      let final : (v : ℕ) → IsNearAny g (s ∷ []) d v → IsForestWord g (s ∷ []) v (word_at words v) = subst (IsFinalUpTo g (s ∷ []) words) is (are.final 0 t (omega arith)) in
      record { size = are.size; dist = d; least = least; final = λ v e to low. word_to g s v (word_at words v) (final v (e, least_of g s v e to, low)) }

  found_least : (d p : ℕ) → IsPair g s t (max_dist P) (Found d p) → IsLeast g s t d × (d ≤ max_dist P)
  found_least d p (near, word) =
      let least = tree_pair_least g s t d p word in
      (least, subst (λ (x : ℕ). x ≤ max_dist P) (least_same g s t near.0 d near.1 least) near.2)

  -- where the answer is found, the words lead back, and a route has its distance
  pub found_back : (d p : ℕ) → Found d p ≡ answer_by (word_at words t) far → LeadBack g s t words × IsLeast g s t d × (d ≤ max_dist P)
  found_back d p by =
      let least = found_least d p (subst (IsPair g s t (max_dist P)) (sym by) (told_to P g s t (answer_by (word_at words t) far) (are.told 0 t (omega arith)))) in
      (back d p (pair_of (word_at words t) far d p by) least.0, least.0, least.1)

-- words for many targets are words for each
pub one_of_targets : (P : ℕ) (g : Graph) (s : ℕ) (targets : List ℕ) (words : List Word) (far : Option ℕ) → AreTargetWords P g s targets words far → (k d : ℕ) → k < length targets → AreTargetWords P g s (get_or targets k d ∷ []) words far
one_of_targets P g s targets words far are k d less = record {
  size = are.size;
  vertices = only (IsVertex g.n) (are.vertices k d less);
  told = only (λ t. IsTold P g (s ∷ []) t (answer_by (word_at words t) far)) (are.told k d less);
  final = only (λ t. IsFinalUpTo g (s ∷ []) words (word_at words t)) (are.final k d less);
}
  where
    only : (A : ℕ → Type 0) → A (get_or targets k d) → All A (get_or targets k d ∷ [])
    only A h = All-cons A (get_or targets k d) [] h (All-nil A)
