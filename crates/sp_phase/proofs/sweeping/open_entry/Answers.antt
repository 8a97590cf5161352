use Rattle.std.proofs.Common.{sym}
use Rattle.sp_phase.proofs.CopiedWords.{none_here, kept_here, told_open}
use Rattle.sp_phase.proofs.sweeping.open_entry.Goals as goal

pub returns-in-None-clause-none : goal.returns-in-None-clause-none
returns-in-None-clause-none g c = none_here c.args.words.now c.args.marks.now c.args.bounds c.args.vertex c.look_up-word.result c.look_up-word.ensures (sym c.in-None.ensures.dist)

pub returns-in-Some-clause-none : goal.returns-in-Some-clause-none
returns-in-Some-clause-none g c =
    kept_here c.args.words.now c.args.marks.now c.args.bounds c.args.vertex c.in-Some.dist c.look_up-word.result c.mark_of-mark.result c.open_at.result c.look_up-word.ensures (sym c.in-Some.ensures.dist) c.mark_of-mark.ensures c.open_at.ensures.none

pub returns-in-Some-clause-open : goal.returns-in-Some-clause-open
returns-in-Some-clause-open g c =
    told_open c.args.words.now c.args.marks.now c.args.bounds c.args.vertex c.in-Some.dist c.look_up-word.result c.mark_of-mark.result c.open_at.result c.requires.vertex c.look_up-word.ensures (sym c.in-Some.ensures.dist) c.mark_of-mark.ensures c.open_at.ensures.is c.open_at.ensures.open
