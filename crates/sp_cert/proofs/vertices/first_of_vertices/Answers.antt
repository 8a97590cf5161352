use Rattle.std.proofs.Common.{◌∙◌, arith}
use Rattle.sp_paths.specs.Paths.{word_at}
use Rattle.sp_cert.specs.Faults.{FaultAt, BreaksAt}
use Rattle.sp_cert.proofs.FirstSteps.{first_of_reduced}
use Rattle.sp_cert.proofs.VertexSteps.{numbers, numbers_are, first_of_numbers}
use Rattle.sp_cert.proofs.vertices.first_of_vertices.Goals as goal

pub reduce-requires-clause-ready : goal.reduce-requires-clause-ready
reduce-requires-clause-ready g c κs within =
    let list = rw (c.new.ensures.exhausted, c.new.ensures.start, c.new.ensures.end, c.n.ensures.n) at c.into_par_iter.ensures in
    rw (c.map.ensures.base, c.map.ensures.f, list) (λ k d lt. ((omega arith, (c.requires.layout, c.requires.size, c.requires.order, numbers_are c.args.graph.now.n k d lt)), λ y p. tt))

pub returns : goal.returns
returns g c =
    let n = c.args.graph.now.n in
    let list = rw (c.new.ensures.exhausted, c.new.ensures.start, c.new.ensures.end, c.n.ensures.n) at c.into_par_iter.ensures in
    let done = rw (c.map.ensures.base, c.map.ensures.f) at c.reduce.ensures in
    let B = BreaksAt c.args.graph.now c.args.sources c.args.limit (word_at c.args.words.now) in
    let zip = rw (done.1.1 ∙ list) at done.1.2 in
    first_of_numbers n B c.reduce.result (first_of_reduced (FaultAt B) (numbers n) done.0 c.reduce.result zip done.2)
