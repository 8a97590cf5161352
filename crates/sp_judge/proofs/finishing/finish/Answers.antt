use Rattle.std.proofs.Common.{None, sym, subst}
use Rattle.sp_word.specs.Word.{max_dist}
use Rattle.sp_answer.specs.declared.asked.Until.{Until}
use Rattle.sp_answer.specs.Run.{IsAsked, AreRunWords}
use Rattle.sp_judge.proofs.Closed.{left_of}
use Rattle.sp_judge.proofs.LoweredWalks.{any_finished}
use Rattle.sp_judge.proofs.Asked.{finished_all, finished_limit, finished_targets}
use Rattle.sp_judge.proofs.finishing.finish.Goals as goal

pub returns-in-All : goal.returns-in-All
returns-in-All g c =
    let graph = c.args.graph.now in
    let sources = c.args.run.sources.now in
    let words = c.relax_all.new.words.items in
    let done = any_finished graph c.n.ensures.graph (max_dist g.row.P) sources c.requires.vertices c.args.words.now.items words c.requires.table
    (rw c.arcs.ensures.arcs at c.relax_all.ensures.lowered) (rw c.arcs.ensures.arcs at c.relax_all.ensures.closed) in
    let left = left_of graph words c.as_slice.result.now c.arcs-in-All.result.now c.left_out.result c.as_slice.ensures.value c.arcs-in-All.ensures.arcs done.size c.left_out.ensures in
    subst (λ (u : Until). AreRunWords g.row.P graph sources u words c.left_out.result) (sym c.in-All.is) (finished_all g.row.P graph sources words done c.left_out.result left)

pub returns-in-Limit : goal.returns-in-Limit
returns-in-Limit g c =
    let graph = c.args.graph.now in
    let sources = c.args.run.sources.now in
    let words = c.relax_all.new.words.items in
    let done = any_finished graph c.n.ensures.graph (max_dist g.row.P) sources c.requires.vertices c.args.words.now.items words c.requires.table
    (rw c.arcs.ensures.arcs at c.relax_all.ensures.lowered) (rw c.arcs.ensures.arcs at c.relax_all.ensures.closed) in
    let asked = subst (IsAsked g.row.P graph.n) c.in-Limit.is c.requires.asked in
    subst (λ (u : Until). AreRunWords g.row.P graph sources u words None) (sym c.in-Limit.is) (finished_limit g.row.P graph sources words done c.in-Limit.field-0 asked)

pub returns-in-Targets : goal.returns-in-Targets
returns-in-Targets g c =
    let graph = c.args.graph.now in
    let sources = c.args.run.sources.now in
    let words = c.relax_all.new.words.items in
    let done = any_finished graph c.n.ensures.graph (max_dist g.row.P) sources c.requires.vertices c.args.words.now.items words c.requires.table
    (rw c.arcs.ensures.arcs at c.relax_all.ensures.lowered) (rw c.arcs.ensures.arcs at c.relax_all.ensures.closed) in
    let asked = subst (IsAsked g.row.P graph.n) c.in-Targets.is c.requires.asked in
    let told = c.left_out-in-Targets in
    let left = left_of graph words c.as_slice-in-Targets.result.now c.arcs-in-Targets.result.now told.result c.as_slice-in-Targets.ensures.value c.arcs-in-Targets.ensures.arcs done.size told.ensures in
    subst (λ (u : Until). AreRunWords g.row.P graph sources u words told.result) (sym c.in-Targets.is) (finished_targets g.row.P graph sources words done c.in-Targets.field-0 asked told.result left)
