use Rattle.std.proofs.Common.{◌∙◌}
use Rattle.sp_serial.proofs.Lowered.{row_arcs}
use Rattle.sp_serial.proofs.batch.relax_row.Goals as goal

pub relax_arcs-requires-clause-arcs : goal.relax_arcs-requires-clause-arcs
relax_arcs-requires-clause-arcs g c =
    row_arcs c.args.graph.now c.args.entry.vertex _ (rw (c.count.ensures.count c.args.entry.vertex) c.arcs.ensures ∙ c.in-Some.ensures.row)

pub relax_arcs-requires-in-None-clause-arcs : goal.relax_arcs-requires-in-None-clause-arcs
relax_arcs-requires-in-None-clause-arcs g c = row_arcs c.args.graph.now c.args.entry.vertex c.row.result.now c.row.ensures.row
