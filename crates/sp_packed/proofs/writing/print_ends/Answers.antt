use Rattle.std.proofs.Common.{◌≡◌, ◌+◌, length, sym, ap, arith}
use Rattle.sp_graph.specs.Keys.{tail_of, keys_to}
use Rattle.sp_graph.proofs.Keys.{to-le-length}
use Rattle.sp_packed.proofs.Sending.{sends_first, sends_end, no_tails, end_more}
use Rattle.sp_packed.proofs.writing.print_ends.Goals as goal

pub loop-v-init : goal.loop-v-init
loop-v-init g c =
    let graph = c.args.graph.now in
    let first = sends_first g.W.Write graph.n graph.arcs c.args.sum c.print_words-all.result c.args.out.now c.print_words-all.new.out c.args.printer.now c.print_words-all.new.printer
    c.n-v-end.ensures.graph c.print_words-all.ensures.sends c.print_words-all.ensures.sum in
    (first.0, first.1, sym (no_tails graph.n graph.arcs c.n-v-end.ensures.graph))

pub overflow_cast-end : goal.overflow_cast-end
overflow_cast-end g c =
    let arcs = c.args.graph.now.arcs in
    omega (arith, ap length c.row.ensures.row, end_more arcs c.loop-v.v, to-le-length tail_of arcs (c.loop-v.v + 1), c.requires)

pub overflow_add-end : goal.overflow_add-end
overflow_add-end g c =
    let arcs = c.args.graph.now.arcs in
    omega (arith, ap length c.row.ensures.row, end_more arcs c.loop-v.v, to-le-length tail_of arcs (c.loop-v.v + 1), c.requires, c.loop-v.invariant.2)

pub loop-v-preserved : goal.loop-v-preserved
loop-v-preserved g c =
    let arcs = c.args.graph.now.arcs in
    let v = c.loop-v.v in
    let before = c.loop-v.invariant in
    let end = c.loop-v.end + length c.row.result.now in
    let is : end ≡ keys_to tail_of arcs (v + 1) = omega (arith, ap length c.row.ensures.row, end_more arcs v, before.2) in
    let next = sends_end g.W.Write arcs c.args.sum c.loop-v.all c.print_words-all-in-loop-v.result v end c.args.out.now c.loop-v.out c.print_words-all-in-loop-v.new.out
    c.args.printer.now c.loop-v.printer c.print_words-all-in-loop-v.new.printer is before.0 before.1 c.print_words-all-in-loop-v.ensures.sends c.print_words-all-in-loop-v.ensures.sum in
    (next.0, next.1, is)
