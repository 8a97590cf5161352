use Rattle.std.proofs.Common.{ap, subst}
use Rattle.sp_phase.specs.Stage.{Learns}
use Rattle.sp_phase.specs.Marks.{notes_of}
use Rattle.sp_phase.specs.Lead.{Lead}
use Rattle.sp_phase.proofs.LeaderHolds.{holds_learns, leads_holds}
use Rattle.sp_phase.proofs.leader.Leader.read.Goals as goal

pub invariant_of-self : goal.invariant_of-self
invariant_of-self g c =
    let r = c.self.inside in
    let led = c.self.invariant.1 in
    let after = c.read.new.caller in
    (c.self.invariant.0, leads_holds g.row.P r.store.now _ after (notes_of r.marks) (holds_learns g.row.P r.store.now r.caller after (notes_of r.marks) c.read.ensures.caller led.holds) led)

pub returns-clause-reads : goal.returns-clause-reads
returns-clause-reads g c =
    let after = c.read.new.caller in
    record {
      rest = ap (λ (l : Lead). record l { caller = after }) c.self.view_is;
      learns = subst (λ (l : Lead). Learns g.row.P l.stage l.caller after) c.self.view_is c.read.ensures.caller;
    }
