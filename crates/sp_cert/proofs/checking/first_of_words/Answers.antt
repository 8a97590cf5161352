use Rattle.sp_word.specs.Word.{max_dist}
use Rattle.sp_paths.specs.Paths.{word_at}
use Rattle.sp_cert.specs.Faults.{BreaksAt, FaultOfArc, FaultOfVertex}
use Rattle.sp_cert.proofs.FirstSteps.{first_of_both}
use Rattle.sp_cert.proofs.checking.first_of_words.Goals as goal

pub returns : goal.returns
returns g c =
    let gr = c.args.graph.now in
    let words = word_at c.args.words.now in
    let arcs = rw c.arcs.ensures.arcs at c.first_of_arcs-of_arcs.ensures in
    rw c.earlier.ensures (first_of_both (FaultOfArc (max_dist g.row.P) c.args.limit words gr.arcs) (FaultOfVertex gr.n (BreaksAt gr c.args.sources c.args.limit words)) c.first_of_arcs-of_arcs.result c.first_of_vertices-of_vertices.result arcs c.first_of_vertices-of_vertices.ensures)
