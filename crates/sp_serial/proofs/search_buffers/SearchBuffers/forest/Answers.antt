use Rattle.std.proofs.Common.{Some, sym, subst}
use Rattle.std.specs.Prelude.{All, IfOk, IfSome}
use Rattle.sp_paths.specs.Paths.{Graph, IsVertex}
use Rattle.sp_answer.specs.Nearest.{IsForestAnswer}
use Rattle.sp_serial.specs.Rooted.{IsForestOf}
use Rattle.sp_serial.proofs.PartRows.{found_as}
use Rattle.sp_serial.proofs.RootedRows.{forest_of_part}
use Rattle.sp_serial.proofs.search_buffers.SearchBuffers.forest.Goals as goal

pub returns-clause-forest : goal.returns-clause-forest
returns-clause-forest g c =
    let graph = c.self.inside.graph.now in
    let sources = c.args.sources.now in
    let limit = c.args.limit in
    let part = c.in-Some.part in
    let vertices = subst (λ (g : Graph). All (IsVertex g.n) sources) (sym c.self.view_is) c.requires.sources in
    let has = rw (c.in_ok-part.was {u = tt}, c.in-Some.is) at c.rows_in-rows.ensures.rows in
    subst (λ (net : Graph). IfOk c.rooted.result (λ found. IfSome found (IsForestAnswer g.row.P net sources (Some limit)))) c.self.view_is
    (found_as (IsForestOf part) (IsForestAnswer g.row.P graph sources (Some limit)) (forest_of_part g.row.P graph c.n.ensures.graph sources vertices limit part has) c.rooted.result c.rooted.ensures)
