use Rattle.sp_word.specs.Word.{max_dist}
use Rattle.sp_judge.proofs.LoweringSteps.{lowered_one}
use Rattle.sp_judge.proofs.lowering.relax.Goals as goal

pub returns-clause-lowered : goal.returns-clause-lowered
returns-clause-lowered g c arcs here =
    let lesser = rw (c.look_up.ensures, c.look_up-found.ensures, c.deref.ensures.value, c.deref-2.ensures.value) at c.in_ok-word.ensures.some in
    lowered_one (max_dist g.row.P) arcs c.args.words.now.items c.args.arc c.in_ok-word.word here lesser
