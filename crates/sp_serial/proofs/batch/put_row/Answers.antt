use Rattle.std.proofs.Common.{refl}
use Rattle.sp_paths.specs.Rows.{row_of}
use Rattle.sp_serial.proofs.Lowered.{row_behind}
use Rattle.sp_serial.proofs.batch.put_row.Goals as goal

pub relax_full-requires-clause-arcs : goal.relax_full-requires-clause-arcs
relax_full-requires-clause-arcs g c =
    let v = c.args.vertex in
    row_behind c.args.graph.now v (row_of c.args.graph.now.arcs v) c.args.arcs.now.items c.put_at_once-is_put.new.arcs.items refl c.requires.arcs (c.put_at_once-is_put.ensures.put c.if-is_put.true)

pub put_each-requires-clause-arcs : goal.put_each-requires-clause-arcs
put_each-requires-clause-arcs g c = rw (c.put_at_once-is_put.ensures.refused c.if-is_put.false) c.requires.arcs
