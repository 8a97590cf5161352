-- What is told of sources are the answers to them.
use Rattle.std.proofs.Common.{◌≡◌, ℕ, ◌≤◌, List, [], ◌∷◌, ◌++◌, length, Option, refl, ap, ◌∙◌, cond, arith}
use Rattle.std.specs.Prelude.{sum_by}
use Rattle.std.specs.List.{count_by}
use Rattle.std.proofs.lemmas.List.Concat.{flat_map-append}
use Rattle.std.proofs.lemmas.List.Sums.{sum_by-cons}
use Rattle.sp_paths.specs.Paths.{Graph}
use Rattle.sp_jobs.specs.Told.{WrittenAnswer, IsDue, AreDue, count_of, far_of, text_of, told_text}
use Rattle.sp_jobs.specs.Batch.{TreeAnswer, TreeOf, FarFrom, IsTreeAnswer, AreTreeAnswers, tree_answer_text, batch_text, is_far}
use Rattle.sp_jobs.specs.Trees.{told_of_tree, IsTreeTold}

-- ## Answers

pub answers_both : (P : ℕ) (limit : Option ℕ) (g : Graph) (front back : List ℕ) (first second : List TreeAnswer) → AreTreeAnswers P limit g front first → AreTreeAnswers P limit g back second → AreTreeAnswers P limit g (front ++ back) (first ++ second)
answers_both P limit g [] back [] second are more = more
answers_both P limit g [] back (a ∷ first) second are more = absurd are
answers_both P limit g (s ∷ front) back [] second are more = absurd are
answers_both P limit g (s ∷ front) back (a ∷ first) second are more = (are.0, answers_both P limit g front back first second are.1 more)

pub text_both : (first second : List TreeAnswer) → batch_text (first ++ second) ≡ batch_text first ++ batch_text second
text_both first second = flat_map-append tree_answer_text first second

-- ## What they tell

far_within : (answer : TreeAnswer) → cond (is_far answer) 1 0 ≤ 1
far_within (TreeOf t) = omega arith
far_within (FarFrom s v) = omega arith

-- An answer to a source tells what is due.
pub found_due : (P : ℕ) (limit : Option ℕ) (g : Graph) (s : ℕ) (answer : TreeAnswer) → IsTreeAnswer P limit g s answer → IsDue (λ s told. IsTreeTold P limit g s told) s (told_of_tree answer)
found_due P limit g s answer is = record { answers = record { answer = answer; is = is; tells = refl }; few = omega arith; far = far_within answer }

pub told_due : (P : ℕ) (limit : Option ℕ) (g : Graph) (s : ℕ) (told : WrittenAnswer) → IsTreeTold P limit g s told → IsDue (λ s told. IsTreeTold P limit g s told) s told
told_due P limit g s told h = rw h.tells (found_due P limit g s h.answer h.is)

-- The answers, and what they count.
pub record AreTold (P : ℕ) (limit : Option ℕ) (g : Graph) (sources : List ℕ) (all : List WrittenAnswer) : Type 0 where
  pub answers : List TreeAnswer
  pub are : AreTreeAnswers P limit g sources answers
  pub text : told_text all ≡ batch_text answers
  pub count : sum_by count_of all ≡ length answers
  pub far : sum_by far_of all ≡ count_by is_far answers

answer_more : (P : ℕ) (limit : Option ℕ) (g : Graph) (s : ℕ) (sources : List ℕ) (told : WrittenAnswer) (all : List WrittenAnswer) → IsTreeTold P limit g s told → AreTold P limit g sources all → AreTold P limit g (s ∷ sources) (told ∷ all)
answer_more P limit g s sources told all first more =
    let answer = first.answer in
    let counts : told.count ≡ 1 = ap count_of first.tells in
    let fars : told.far ≡ cond (is_far answer) 1 0 = ap far_of first.tells in
    let texts : told.text ≡ tree_answer_text answer = ap text_of first.tells in
    record {
      answers = answer ∷ more.answers;
      are = (first.is, more.are);
      text = ap (λ (l : List ℕ). l ++ told_text all) texts ∙ ap (λ (l : List ℕ). tree_answer_text answer ++ l) more.text;
      count = sum_by-cons count_of told all ∙ omega (arith, counts, more.count);
      far = sum_by-cons far_of told all ∙ omega (arith, fars, more.far, sum_by-cons (λ (b : TreeAnswer). cond (is_far b) 1 0) answer more.answers);
    }

pub answers_told : (P : ℕ) (limit : Option ℕ) (g : Graph) (sources : List ℕ) (all : List WrittenAnswer) → AreDue (λ s told. IsTreeTold P limit g s told) sources all → AreTold P limit g sources all
answers_told P limit g [] [] are = record { answers = []; are = tt; text = refl; count = refl; far = refl }
answers_told P limit g [] (told ∷ all) are = absurd are
answers_told P limit g (s ∷ sources) [] are = absurd are
answers_told P limit g (s ∷ sources) (told ∷ all) are = answer_more P limit g s sources told all are.0.answers (answers_told P limit g sources all are.1)
