use Rattle.std.proofs.Common.{Vec, sym, subst, ◌∙◌, arith}
use Rattle.std.specs.declared.alloc.Global.{Global}
use Rattle.sp_word.specs.Word.{max_dist}
use Rattle.sp_graph.specs.declared.marks.Mark.{Mark}
use Rattle.sp_offer.specs.Order.{lawful}
use Rattle.sp_offer.specs.Story.{known_table}
use Rattle.sp_team.specs.Marked.{AllTrue}
use Rattle.sp_team.proofs.Later.{later_itself, later_along}
use Rattle.sp_team.proofs.Marks.{marks_still, no_marks}
use Rattle.sp_team.proofs.team.work.Goals as goal

pub returns-then-not-branch-clause-marks : goal.returns-then-not-branch-clause-marks
returns-then-not-branch-clause-marks g c = no_marks (max_dist g.row.P) c.args.graph.now c.begin.new.caller.story c.new.result.items c.new.ensures.items

pub loop-init : goal.loop-init
loop-init g c = record {
  later = later_itself (lawful g.row.P (g.L.Lawful.allows c.args.table.now.law)) c.begin.new.caller;
  marks = no_marks (max_dist g.row.P) c.args.graph.now c.begin.new.caller.story c.in_ok-batch.batch.notes.marks.items c.in_ok-batch.ensures;
}

pub run_some-requires : goal.run_some-requires
run_some-requires g c = (
  omega arith,
  (
    omega arith,
    (
      c.requires.ready,
      (
        c.look.ensures.table ∙ (c.loop.invariant.later.table ∙ (c.begin.ensures.table ∙ c.requires.caller)),
        marks_still (max_dist g.row.P) c.args.graph.now (known_table c.loop.caller.story) (known_table c.look.new.caller.story) c.loop.batch.notes.marks.items c.look.ensures.falls c.loop.invariant.marks,
      ),
    ),
  ),
)

pub loop-preserved : goal.loop-preserved
loop-preserved g c = record {
  later = later_along _ _ _ _ c.loop.invariant.later (later_along _ _ _ _ c.look.ensures c.run_some.ensures.later);
  marks = c.in_ok-run_some.ensures.marks;
}

pub returns-in_err-run_some-clause-later : goal.returns-in_err-run_some-clause-later
returns-in_err-run_some-clause-later g c = later_along _ _ _ _ c.begin.ensures (later_along _ _ _ _ c.loop.invariant.later (later_along _ _ _ _ c.look.ensures c.run_some.ensures.later))

pub returns-in_err-find-clause-later : goal.returns-in_err-find-clause-later
returns-in_err-find-clause-later g c = later_along _ _ _ _ c.begin.ensures c.loop.invariant.later

pub returns-then-not-branch-2-clause-later : goal.returns-then-not-branch-2-clause-later
returns-then-not-branch-2-clause-later g c = later_along _ _ _ _ c.begin.ensures c.loop.invariant.later

pub returns-then-not-branch-2-clause-marks : goal.returns-then-not-branch-2-clause-marks
returns-then-not-branch-2-clause-marks g c =
    subst (λ (v : Vec Mark Global). AllTrue (max_dist g.row.P) c.args.graph.now c.loop.caller.story v.items) (sym c.into_marks.ensures) c.loop.invariant.marks

pub returns-clause-later : goal.returns-clause-later
returns-clause-later g c = later_along _ _ _ _ c.begin.ensures c.loop.invariant.later
