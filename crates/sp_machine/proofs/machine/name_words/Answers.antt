use Rattle.std.proofs.Common.{arith}
use Rattle.sp_machine.proofs.Plans.{vertex_there}
use Rattle.sp_machine.proofs.machine.name_words.Goals as goal

pub overflow_sub-vertex : goal.overflow_sub-vertex
overflow_sub-vertex g c =
    let there = vertex_there _ c.args.named.now c.loop-vertex.vertex-index c.loop-vertex-item.result c.requires c.loop-vertex-test.true c.loop-vertex-item.is in
    there.0

pub index_mut-requires : goal.index_mut-requires
index_mut-requires g c =
    let there = vertex_there _ c.args.named.now c.loop-vertex.vertex-index c.loop-vertex-item.result c.requires c.loop-vertex-test.true c.loop-vertex-item.is in
    omega (arith, there, c.loop-vertex.invariant.length)
