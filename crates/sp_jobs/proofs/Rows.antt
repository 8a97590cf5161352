-- The rows of sources, one after the other, are the lines of a matrix.
use Rattle.std.proofs.Common.{◌≡◌, ℕ, suc, ◌+◌, List, [], ◌∷◌, ◌++◌, length, Option, refl, sym, ap, ◌∙◌, cond, arith, length-append, append_assoc}
use Rattle.std.specs.Prelude.{All, sum_by, count_by}
use Rattle.std.proofs.lemmas.List.Sums.{sum_by-cons, sum_by-append}
use Rattle.std.proofs.lemmas.List.Concat.{flat_map-append}
use Rattle.sp_word.specs.Word.{max_dist}
use Rattle.sp_device.proofs.TextSteps.{begun_more}
use Rattle.sp_paths.specs.Paths.{Graph, IsGraph, IsVertex, PairAnswer}
use Rattle.sp_paths.specs.Bags.{AreSame}
use Rattle.sp_paths.proofs.Existence.{pairs_exist}
use Rattle.sp_paths.proofs.SameArcs.{same_arcs_same_answers}
use Rattle.sp_jobs.specs.Told.{WrittenAnswer, AreDue, count_of, far_of, text_of, told_text, HasBegunFirst}
use Rattle.sp_jobs.proofs.ToldInOrder.{all_behind}
use Rattle.sp_files.specs.PairText.{pair_text}
use Rattle.sp_jobs.specs.PairAnswers.{word_kind, ArePairAnswers, pairs_text, is_too_far, HasBegunPairs}
use Rattle.sp_jobs.specs.Matrix.{pairs_from, matrix_of}
use Rattle.sp_jobs.specs.Row.{IsRowTold}
use Rattle.sp_jobs.proofs.Lines.{answers_both}

-- ## Texts

text_both : (P : ℕ) (g : Graph) (front back : List (ℕ × ℕ)) (first second : List PairAnswer) → ArePairAnswers word_kind P g front first → pairs_text word_kind (front ++ back) (first ++ second) ≡ pairs_text word_kind front first ++ pairs_text word_kind back second
text_both P g [] back [] second are = refl
text_both P g [] back (a ∷ first) second are = absurd are
text_both P g (p ∷ front) back [] second are = absurd are
text_both P g (p ∷ front) back (a ∷ first) second are =
    ap (λ (l : List ℕ). pair_text p a ++ l) (text_both P g front back first second are.1) ∙ sym (append_assoc (pair_text p a) (pairs_text word_kind front first) (pairs_text word_kind back second))

far_both : (first second : List PairAnswer) → count_by is_too_far (first ++ second) ≡ count_by is_too_far first + count_by is_too_far second
far_both first second = sum_by-append (λ (a : PairAnswer). cond (is_too_far a) 1 0) first second

-- ## What rows tell

-- The answers to the pairs of a matrix, and what they count.
pub record AreTold (P : ℕ) (g : Graph) (sources targets : List ℕ) (all : List WrittenAnswer) : Type 0 where
  pub answers : List PairAnswer
  pub are : ArePairAnswers word_kind P g (matrix_of sources targets) answers
  pub text : told_text all ≡ pairs_text word_kind (matrix_of sources targets) answers
  pub count : sum_by count_of all ≡ length (matrix_of sources targets)
  pub far : sum_by far_of all ≡ count_by is_too_far answers

row_more : (P : ℕ) (g : Graph) (targets : List ℕ) (s : ℕ) (sources : List ℕ) (told : WrittenAnswer) (all : List WrittenAnswer) → IsRowTold P g targets s told → AreTold P g sources targets all → AreTold P g (s ∷ sources) targets (told ∷ all)
row_more P g targets s sources told all first more =
    let row = pairs_from s targets in
    let rest = matrix_of sources targets in
    let counts : told.count ≡ length row = ap count_of first.tells in
    let fars : told.far ≡ count_by is_too_far first.answers = ap far_of first.tells in
    let texts : told.text ≡ pairs_text word_kind row first.answers = ap text_of first.tells in
    record {
      answers = first.answers ++ more.answers;
      are = answers_both P g row rest first.answers more.answers first.are more.are;
      text = ap (λ (l : List ℕ). l ++ told_text all) texts ∙ (ap (λ (l : List ℕ). pairs_text word_kind row first.answers ++ l) more.text ∙ sym (text_both P g row rest first.answers more.answers first.are));
      count = sum_by-cons count_of told all ∙ omega (arith, counts, more.count, length-append row rest);
      far = sum_by-cons far_of told all ∙ omega (arith, fars, more.far, far_both first.answers more.answers);
    }

pub rows_told : (P : ℕ) (g : Graph) (targets sources : List ℕ) (all : List WrittenAnswer) → AreDue (λ s told. IsRowTold P g targets s told) sources all → AreTold P g sources targets all
rows_told P g targets [] [] are = record { answers = []; are = tt; text = refl; count = refl; far = refl }
rows_told P g targets [] (told ∷ all) are = absurd are
rows_told P g targets (s ∷ sources) [] are = absurd are
rows_told P g targets (s ∷ sources) (told ∷ all) are = row_more P g targets s sources told all are.0.answers (rows_told P g targets sources all are.1)

-- ## Graphs with the same arcs

pub same_answers : (P : ℕ) (g h : Graph) (pairs : List (ℕ × ℕ)) (answers : List PairAnswer) → AreSame g h → ArePairAnswers word_kind P g pairs answers → ArePairAnswers word_kind P h pairs answers
same_answers P g h [] [] same are = are
same_answers P g h [] (a ∷ answers) same are = absurd are
same_answers P g h (p ∷ pairs) [] same are = absurd are
same_answers P g h (p ∷ pairs) (a ∷ answers) same are = ((same_arcs_same_answers g h same).pair p.0 p.1 (max_dist P) a are.0, same_answers P g h pairs answers same are.1)

-- ## All answers

module _ (P : ℕ) (g : Graph) (gr : IsGraph g) where
  row_exists : (s : ℕ) (targets : List ℕ) → IsVertex g.n s → All (IsVertex g.n) targets → (answers : List PairAnswer) × ArePairAnswers word_kind P g (pairs_from s targets) answers
  row_exists s [] in' all = ([], tt)
  row_exists s (t ∷ targets) in' all =
      let first = pairs_exist g s t (max_dist P) gr in' (all 0 0 (omega arith)) in
      let more = row_exists s targets in' (λ i d less. all (suc i) d (omega arith)) in
      (first.0 ∷ more.0, (first.1, more.1))

  pub matrix_exists : (sources targets : List ℕ) → All (IsVertex g.n) sources → All (IsVertex g.n) targets → (answers : List PairAnswer) × ArePairAnswers word_kind P g (matrix_of sources targets) answers
  matrix_exists [] targets starts ends = ([], tt)
  matrix_exists (s ∷ sources) targets starts ends =
      let first = row_exists s targets (starts 0 0 (omega arith)) ends in
      let more = matrix_exists sources targets (λ i d less. starts (suc i) d (omega arith)) ends in
      (first.0 ++ more.0, answers_both P g (pairs_from s targets) (matrix_of sources targets) first.0 more.0 first.1 more.1)

  -- What was begun with the first rows is a beginning with all.
  pub matrix_begun : (h : Graph) (sources targets : List ℕ) (old new : Option (List ℕ)) → AreSame h g → All (IsVertex g.n) sources → All (IsVertex g.n) targets
      → HasBegunFirst (λ s told. IsRowTold P h targets s told) sources old new → HasBegunPairs word_kind P g (matrix_of sources targets) old new
  matrix_begun h sources targets old new same starts ends b =
      let t = rows_told P h targets b.done b.all b.are in
      let front = matrix_of b.done targets in
      let back = matrix_of b.later targets in
      let first = same_answers P h g front t.answers same t.are in
      let more = matrix_exists b.later targets (all_behind (IsVertex g.n) sources b.done b.later b.parts starts) ends in
      let parts : matrix_of sources targets ≡ front ++ back = ap (λ (l : List ℕ). matrix_of l targets) b.parts ∙ flat_map-append (λ (s : ℕ). pairs_from s targets) b.done b.later in
      rw parts (record {
        answers = t.answers ++ more.0;
        are = answers_both P g front back t.answers more.0 first more.1;
        begun = rw (text_both P g front back t.answers more.0 first) (begun_more (pairs_text word_kind front t.answers) (pairs_text word_kind back more.0) old new (rw t.text at b.begun));
      })
