use Rattle.std.proofs.Common.{[], ◌∷◌, sym, subst}
use Rattle.std.specs.Prelude.{IfOk, IfSome}
use Rattle.sp_paths.specs.Paths.{Graph, IsVertex}
use Rattle.sp_answer.specs.Within.{IsTreeWithin}
use Rattle.sp_serial.specs.Part.{HasPart}
use Rattle.sp_serial.proofs.PartRows.{found_as, part_of_tree}
use Rattle.sp_serial.proofs.search_buffers.SearchBuffers.part.Goals as goal

pub returns-clause-part : goal.returns-clause-part
returns-clause-part g c =
    let graph = c.self.inside.graph.now in
    let s = c.args.source in
    let limit = c.args.limit in
    let source = subst (λ (g : Graph). IsVertex g.n s) (sym c.self.view_is) c.requires.source in
    subst (λ (g : Graph). IfOk c.rows_in-part.result (λ found. IfSome found (IsTreeWithin g s limit))) c.self.view_is
    (found_as (HasPart graph (s ∷ []) limit) (IsTreeWithin graph s limit) (part_of_tree graph s source limit) c.rows_in-part.result c.rows_in-part.ensures.rows)
