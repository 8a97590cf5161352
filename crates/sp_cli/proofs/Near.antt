-- Within a limit no vertex is too far, so the command ends as one that is done.
use Rattle.std.proofs.Common.{◌≡◌, ◌∙◌, ℕ, Bool, true, false, List, [], ◌∷◌, Option, None, Some, Result, Ok, Err, refl, sym, subst, cond, arith}
use Rattle.std.specs.Prelude.{IfOk}
use Rattle.std.specs.List.{count_by}
use Rattle.std.proofs.lemmas.List.Sums.{sum_by-cons}
use Rattle.sp_paths.specs.Paths.{Graph}
use Rattle.sp_jobs.specs.declared.answers.BatchError.{BatchError}
use Rattle.sp_jobs.specs.Answered.{Wrote}
use Rattle.sp_jobs.specs.declared.answers.Summary.{Summary}
use Rattle.sp_jobs.specs.Batch.{TreeAnswer, TreeOf, FarFrom, AreTreeAnswers, IsBatch, is_far}
use Rattle.sp_jobs.specs.Nearest.{ForestAnswer as Nearest, ForestOf, FarFromAll, IsAnswerToAll, IsForestRun, far_count}
use Rattle.sp_command.specs.declared.faults.Status.{Status}
use Rattle.sp_command.specs.declared.faults.Status.TheVariants as status
use Rattle.sp_options.specs.Ends.{end_of, end_after}
use Rattle.sp_cli.specs.Told.{EndsNear, NoneFar}

no_tree_far : (P limit : ℕ) (g : Graph) (sources : List ℕ) (answers : List TreeAnswer) → AreTreeAnswers P (Some limit) g sources answers → count_by is_far answers ≡ 0
no_tree_far P limit g [] [] are = refl
no_tree_far P limit g [] (a ∷ answers) are = absurd are
no_tree_far P limit g (s ∷ sources) [] are = absurd are
no_tree_far P limit g (s ∷ sources) (TreeOf t ∷ answers) are =
    sum_by-cons (λ (b : TreeAnswer). cond (is_far b) 1 0) (TreeOf t) answers ∙ omega (arith, no_tree_far P limit g sources answers are.1)
no_tree_far P limit g (s ∷ sources) (FarFrom source vertex ∷ answers) are = absurd are.0

no_forest_far : (P limit : ℕ) (g : Graph) (sources : List ℕ) (answer : Nearest) → IsAnswerToAll P g sources (Some limit) answer → far_count answer ≡ 0
no_forest_far P limit g sources (ForestOf f) is = refl
no_forest_far P limit g sources (FarFromAll v) is = absurd is

done_where_none : (far_ok : Bool) (summary : Summary) → summary.too_far ≡ 0 → end_of far_ok summary ≡ status.Done
done_where_none true summary none = refl
done_where_none false summary none = rw none refl

within : (far_ok : Bool) (limit : ℕ) (summary : Summary) (end : Status) → end ≡ end_of far_ok summary → summary.too_far ≡ 0 → EndsNear (Ok end) (Some limit)
within far_ok limit summary end ends none = subst (λ x. EndsNear (Ok x) (Some limit)) (sym (ends ∙ done_where_none far_ok summary none)) tt

without_limit : (end : Status) → EndsNear (Ok end) None
without_limit status.TooFar = tt
without_limit _ = tt

-- No vertex is too far in what is done within a limit.
pub trees_near : (P : ℕ) (limit : Option ℕ) (wrote : Wrote) (graph : Graph) (sources : List ℕ) (summary : Summary) → IsBatch P limit wrote graph sources (Ok summary) → NoneFar limit summary
trees_near P None wrote graph sources summary is = tt
trees_near P (Some limit) wrote graph sources summary is = is.3.too_far ∙ no_tree_far P limit graph sources is.0 is.1

pub forest_near : (P : ℕ) (limit : Option ℕ) (wrote : Wrote) (graph : Graph) (sources : List ℕ) (summary : Summary) → IsForestRun P limit wrote graph sources (Ok summary) → NoneFar limit summary
forest_near P None wrote graph sources summary is = tt
forest_near P (Some limit) wrote graph sources summary is = is.3.too_far ∙ no_forest_far P limit graph sources is.0 is.1

-- So the command ends near them.
pub ends_near : (far_ok : Bool) (limit : Option ℕ) (answer : Result Summary BatchError) → IfOk answer (NoneFar limit) → EndsNear (end_after far_ok answer) limit
ends_near far_ok limit (Err e) near = tt
ends_near far_ok None (Ok summary) near = without_limit (end_of far_ok summary)
ends_near far_ok (Some limit) (Ok summary) near = within far_ok limit summary (end_of far_ok summary) refl near
