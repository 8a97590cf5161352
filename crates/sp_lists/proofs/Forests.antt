-- What is told of a forest.
use Rattle.std.proofs.Common.{◌≡◌, ◌∙◌, ℕ, List, length, Option, Some, None, refl, sym, subst}
use Rattle.std.specs.Prelude.{All, Contains}
use Rattle.sp_word.specs.Word.{Word, Unreached, Pair}
use Rattle.sp_paths.specs.Paths.{Graph, IsGraph, IsVertex, IsLeast, word_at}
use Rattle.sp_answer.specs.declared.answer.RunError.TheVariants.{TooFar as FarVertex}
use Rattle.sp_answer.specs.Nearest.{IsForestUpTo, IsRefusal}
use Rattle.sp_answer.specs.Rooted.{AreRoots, root_at}
use Rattle.sp_paths.specs.Roots.{IsRootOrNone}
use Rattle.sp_answer.proofs.ForestAnswers.{law_of}
use Rattle.sp_lists.specs.declared.outcomes.Outcome.TheVariants.{TooFar}
use Rattle.sp_lists.specs.ForestQuestion.{ForestSlices, IsRootCell, AreRooted, IsForestIn}

-- A vertex that is too far is told only without a limit.
pub far_told : (P : ℕ) (g : Graph) (sources : List ℕ) (limit : Option ℕ) (v : ℕ) (there : ForestSlices) → IsRefusal P g sources limit (FarVertex v) → IsForestIn P g sources limit there there (TooFar v)
far_told P g sources None v there is = (refl, is.1, refl)
far_told P g sources (Some limit) v there is = absurd is

-- The roots that a chain of predecessors shows are those of the forest.
pub rooted : (P : ℕ) (g : Graph) → IsGraph g → (sources : List ℕ) → All (IsVertex g.n) sources → (limit : Option ℕ) (words : List Word) (roots : List ℕ) → length words ≡ g.n
    → IsForestUpTo P g sources limit (word_at words) → AreRoots words roots → AreRooted P g sources limit words roots
rooted P g graph sources vertices limit words roots size forest are = record {
  size = size;
  as_many = are.size ∙ size;
  forest = forest;
  cells = λ v at. cell v at (word_at words v) refl (are.each v (subst (λ (n : ℕ). IsVertex n v) (sym size) at));
}
  where
    cell : (v : ℕ) → IsVertex g.n v → (w : Word) → word_at words v ≡ w → IsRootOrNone (word_at words) v (root_at roots v) w → IsRootCell g sources (word_at words) v w (root_at roots v)
    cell v at Unreached is none = none
    cell v at (Pair d p) is chain =
        let law = (law_of P g graph sources vertices limit (word_at words) forest).roots v d p at is in
        let same : root_at roots v ≡ law.root = law.one (root_at roots v) chain in
        record {
          chain = chain;
          source = subst (Contains sources) (sym same) law.source;
          dist = subst (λ (r : ℕ). IsLeast g r v d) (sym same) (law.dist d p is);
        }
