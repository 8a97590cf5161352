-- What was found for sources, before it is written.
use Rattle.std.specs.Prelude.{◌≡◌, ◌≤◌, ℕ, List, All, cond, Option, IfSome}
use Rattle.sp_word.specs.Word.{max_dist}
use Rattle.sp_paths.specs.Paths.{Graph, IsVertex}
use Rattle.sp_jobs.specs.Ready.{IsReady}
use Rattle.sp_jobs.specs.Told.{WrittenAnswer}
use Rattle.sp_jobs.specs.declared.trees.SourceAnswer.{SourceAnswer}
use Rattle.sp_jobs.specs.declared.trees.SourceAnswer.TheVariants.{Tree, Part, Text, TooFar}
use Rattle.sp_jobs.specs.Batch.{TreeAnswer, TreeOf, FarFrom, IsTreeAnswer, tree_answer_text, is_far}

-- what an answer tells
abbrev pub told_of_tree : TreeAnswer → WrittenAnswer
told_of_tree answer = record { count = 1; far = cond (is_far answer) 1 0; text = tree_answer_text answer }

-- what it tells as it is kept: as a tree or its part, as the text of one, or as the vertex that is too far
abbrev pub told_by : {P : ℕ} → SourceAnswer P → WrittenAnswer
told_by (Tree t) = told_of_tree (TreeOf t)
told_by (Part t) = told_of_tree (TreeOf t)
told_by (Text text) = record { count = 1; far = 0; text = text.items }
told_by (TooFar source vertex) = told_of_tree (FarFrom source vertex)

-- An answer to the source tells that.
pub record IsTreeTold (P : ℕ) (limit : Option ℕ) (g : Graph) (s : ℕ) (told : WrittenAnswer) : Type 0 where
  pub answer : TreeAnswer
  pub is : IsTreeAnswer P limit g s answer
  pub tells : told ≡ told_of_tree answer

-- The engine can run, the source is a vertex, the graph within the limits of a run, and the limit a distance.
pub record CanFindTree (CanRun : Type 0) (P : ℕ) (limit : Option ℕ) (g : Graph) (s : ℕ) : Type 0 where
  pub engine : CanRun
  pub limit_within : IfSome limit (λ l. l ≤ max_dist P)
  pub ready : IsReady P g
  pub vertex : IsVertex g.n s
