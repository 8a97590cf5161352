use Rattle.std.specs.Result.{is_ok}
use Rattle.sp_team.proofs.Marks.{lists_joined}
use Rattle.sp_team.proofs.team.merge.Goals as goal

pub returns-clause-marks : goal.returns-clause-marks
returns-clause-marks g c = λ max graph mine theirs. lists_joined max graph c.args.mine.caller.story c.args.theirs.caller.story c.join.result.story (is_ok c.append.result) c.args.mine.marks.items
    c.args.theirs.marks.items c.append.new.self.items (λ v. (c.join.ensures.story.falls v).0) (λ v. (c.join.ensures.story.falls v).1) c.append.ensures.items mine theirs
