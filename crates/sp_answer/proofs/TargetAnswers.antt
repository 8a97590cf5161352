-- The answers for targets of a source.
use Rattle.std.proofs.Common.{◌≡◌, ℕ, zero, suc, ◌+◌, ◌≤◌, ◌<◌, List, [], ◌∷◌, ◌++◌, length, take, get_or, Option, Some, None, refl, sym, ap, subst, arith, Bor}
use Rattle.std.specs.Prelude.{All}
use Rattle.std.specs.List.{AllZip}
use Rattle.std.proofs.lemmas.List.{take_more, take_all}
use Rattle.sp_word.specs.Word.{Word, Pair, max_dist}
use Rattle.sp_paths.specs.Paths.{Graph, IsVertex, IsPair, PairAnswer, Found, TooFar, NoWalk, word_at}
use Rattle.sp_paths.proofs.OneForest.{near_to, near_of, word_to, far_to}
use Rattle.sp_answer.specs.declared.pair.PairAnswer.{PairAnswer as Told}
use Rattle.sp_answer.specs.Pair.{answer_of, answer_by}
use Rattle.sp_answer.specs.Run.{IsTold, AreRunWords, AreTargetWords, IsAnswerFor, AreAnswersBy}
use Rattle.sp_answer.specs.declared.asked.Until.TheVariants.{Targets}

-- ## A list of answers

module _ {A : Type 0} (Is : ℕ → A → Type 0) where
  -- one answer more
  answers_push : (targets : List ℕ) (answers : List A) (t : ℕ) (answer : A) → AreAnswersBy Is targets answers → Is t answer → AreAnswersBy Is (targets ++ t ∷ []) (answers ++ answer ∷ [])
  answers_push [] [] t answer are is = (is, tt)
  answers_push [] (a ∷ more) t answer are is = absurd are
  answers_push (x ∷ xs) [] t answer are is = absurd are
  answers_push (x ∷ xs) (a ∷ more) t answer are is = (are.0, answers_push xs more t answer are.1 is)

  pub answers_more : (targets : List ℕ) (i : ℕ) (answers : List A) (answer : A) → i < length targets → AreAnswersBy Is (take i targets) answers → Is (get_or targets i 0) answer → AreAnswersBy Is (take (i + 1) targets) (answers ++ answer ∷ [])
  answers_more targets i answers answer low are is =
      subst (λ (ts : List ℕ). AreAnswersBy Is ts (answers ++ answer ∷ [])) (sym (take_more targets i 0 low)) (answers_push (take i targets) answers (get_or targets i 0) answer are is)

  pub answers_all : (targets : List ℕ) (i : ℕ) (answers : List A) → length targets ≤ i → AreAnswersBy Is (take i targets) answers → AreAnswersBy Is targets answers
  answers_all targets i answers all are = subst (λ (ts : List ℕ). AreAnswersBy Is ts answers) (take_all i targets all) are

  -- there are as many answers as targets
  pub as_many : (targets : List ℕ) (answers : List A) → AreAnswersBy Is targets answers → length answers ≡ length targets
  as_many [] [] are = refl
  as_many [] (a ∷ more) are = absurd are
  as_many (t ∷ ts) [] are = absurd are
  as_many (t ∷ ts) (a ∷ more) are = ap suc (as_many ts more are.1)

  -- the answer at a place is that for the target there
  pub answer_at : (targets : List ℕ) (answers : List A) (k : ℕ) (d : A) → k < length answers → AreAnswersBy Is targets answers → Is (get_or targets k 0) (get_or answers k d)
  answer_at [] [] k d low are = absurd (omega (arith, low))
  answer_at [] (a ∷ more) k d low are = absurd are
  answer_at (t ∷ ts) [] k d low are = absurd are
  answer_at (t ∷ ts) (a ∷ more) zero d low are = are.0
  answer_at (t ∷ ts) (a ∷ more) (suc k) d low are = answer_at ts more k d (omega (arith, low)) are.1

  -- where a list of targets is empty, so is that of the answers
  pub none_asked : (targets : List ℕ) (answers : List A) → length targets ≡ 0 → answers ≡ [] → AreAnswersBy Is targets answers
  none_asked [] answers none is = subst (AreAnswersBy Is []) (sym is) tt
  none_asked (t ∷ ts) answers none is = absurd (omega (arith, none))

-- ## What the words tell

module _ (P : ℕ) (g : Graph) (s : ℕ) where
  -- what is told of a target of this source alone is its answer
  pub told_to : (t : ℕ) (answer : PairAnswer) → IsTold P g (s ∷ []) t answer → IsPair g s t (max_dist P) answer
  told_to t (Found d p) h = (near_to g s (max_dist P) t h.0, word_to g s t (Pair d p) h.1)
  told_to t (TooFar v) h = (λ n. h.0 (near_of g s (max_dist P) t n), far_to g s (max_dist P) (Some v) h.1)
  told_to t NoWalk h = (λ n. h.0 (near_of g s (max_dist P) t n), far_to g s (max_dist P) None h.1)

  module _ (words : List Word) (far : Option ℕ) where
    -- the answer that the target's word tells
    pub told_answer : (t : ℕ) (told : Told) → AreTargetWords P g s (t ∷ []) words far → answer_of told ≡ answer_by (word_at words t) far → IsAnswerFor g s t (max_dist P) told
    told_answer t told are by = subst (IsPair g s t (max_dist P)) (sym by) (told_to t (answer_by (word_at words t) far) (are.told 0 t (omega arith)))

    -- the words of a run for targets
    pub target_words : (targets : Bor (List ℕ)) → All (IsVertex g.n) targets.now → AreRunWords P g (s ∷ []) (Targets targets) words far → AreTargetWords P g s targets.now words far
    target_words targets vertices are = record { size = are.size; vertices = vertices; told = are.tells.0; final = are.tells.1 }
