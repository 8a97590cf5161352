use Rattle.std.proofs.Common.{refl}
use Rattle.sp_phase.proofs.CopiedWords.{none_open}
use Rattle.sp_phase.proofs.SettledBuckets.{sweep_told}
use Rattle.sp_phase.proofs.leader.Leader.sweep.Goals as goal

pub returns-clause-swept : goal.returns-clause-swept
returns-clause-swept g c is =
    let l = c.queue_open.new.self in
    none_open g.row.P l.stage l.caller l.marks.each l.words _ refl refl c.in_ok-none.ensures.copied (c.in_ok-none.ensures.none is)

pub returns-clause-told : goal.returns-clause-told
returns-clause-told g c is =
    let l = c.queue_open.new.self in
    sweep_told g.row.P l.stage l.caller l.marks.each l.words (none_open g.row.P l.stage l.caller l.marks.each l.words _ refl refl c.in_ok-none.ensures.copied (c.in_ok-none.ensures.none is)) c.swept_copy.ensures.ends_in_tree
