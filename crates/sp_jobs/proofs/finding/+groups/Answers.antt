use Rattle.std.proofs.Common.{◌≡◌, ℕ, List, ◌++◌, subst}
use Rattle.std.proofs.lemmas.Result.{IfOk-weaker}
use Rattle.sp_jobs.specs.Steps.{AreFound}
use Rattle.sp_jobs.proofs.ToldInOrder.{found_both, two_parts}
use Rattle.sp_jobs.proofs.finding.+groups.Goals as goal

pub returns : goal.returns
returns g t c =
    let told = g.Q.Question.told in
    let Answers = g.Q.Question.answers c.args.question.now in
    let left = c.split_at.result.0.now in
    let right = c.split_at.result.1.now in
    let one = c.in_ok-first.field-0.items in
    let two = c.in_ok-second.field-0.items in
    let first : AreFound told Answers left one = rw c.in_ok-first.was at c.join-second.ensures.second in
    let second : AreFound told Answers right two = rw c.in_ok-second.was at c.join-second.ensures.first in
    let parts : left ++ right ≡ c.args.sources.now = two_parts c.args.sources.now left right _ c.split_at.ensures.front c.split_at.ensures.back in
    let both = subst (λ (l : List ℕ). AreFound told Answers l (one ++ two)) parts (found_both told Answers left right one two first second) in
    IfOk-weaker c.put_behind.result (λ group. group.items ≡ one ++ two) (λ group. AreFound told Answers c.args.sources.now group.items) (λ group is. rw is both) c.put_behind.ensures
