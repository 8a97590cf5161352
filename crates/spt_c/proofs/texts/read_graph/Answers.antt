use Rattle.std.proofs.Common.{◌≡◌, List, length, refl, ap, subst}
use Rattle.sp_paths.specs.declared.arc.Arc.{Arc}
use Rattle.spt_c.specs.Texts.{HasArcs}
use Rattle.spt_c.proofs.texts.read_graph.Goals as goal

pub returns-then-m-arcs : goal.returns-then-m-arcs
returns-then-m-arcs c =
    let same : c.as_slice-from.result.now ≡ c.in-Ok.file.arcs.items = c.as_slice-from.ensures.value in
    (c.in-Ok.file, record { spells = c.in-Ok.ensures; vertices = refl; arcs = ap length same }, c.if-m-arcs.true, refl)

pub returns-else-m-arcs : goal.returns-else-m-arcs
returns-else-m-arcs c =
    let same : c.as_slice-from.result.now ≡ c.in-Ok.file.arcs.items = c.as_slice-from.ensures.value in
    let A : List Arc → Type 0 = λ xs. HasArcs (length c.as_slice-from.result.now) xs c.args.arcs.now c.put_arcs.new.arcs in
    (c.in-Ok.file, record { spells = c.in-Ok.ensures; vertices = refl; arcs = ap length same }, subst A same c.put_arcs.ensures)
