use Rattle.std.proofs.Common.{ap, sym, subst, arith, ◌∙◌}
use Rattle.rayon.proofs.ToStd.{slice-AllZip}
use Rattle.sp_answer.specs.ForestTable.{Row, table_of, root_of}
use Rattle.sp_cert.specs.Faults.{IsFirstOf, FaultAt, BreaksRoot}
use Rattle.sp_cert.specs.ForestRows.{IsOwnRow}
use Rattle.sp_cert.proofs.FirstSteps.{first_of_reduced}
use Rattle.sp_cert.proofs.ForestRows.{own_rows, first_of_rows}
use Rattle.sp_cert.proofs.forests.first_of_roots.Goals as goal

pub reduce-requires-clause-ready : goal.reduce-requires-clause-ready
reduce-requires-clause-ready g c κs within =
    let f = c.args.forest.now in
    let slice = ap (λ it. it.slice.now) c.map.ensures.base ∙ (c.par_iter.ensures ∙ c.rows.ensures.rows) in
    rw (c.map.ensures.f, slice) (λ k d lt x is. ((omega arith, (omega arith, subst (IsOwnRow f) (sym is) (own_rows g.row.P f c.rows.ensures.table k d lt))), λ y p. tt))

pub returns : goal.returns
returns g c =
    let f = c.args.forest.now in
    let slice = ap (λ it. it.slice.now) c.map.ensures.base ∙ c.par_iter.ensures in
    let done = c.reduce.ensures in
    let F = λ (row : Row). FaultAt (BreaksRoot (table_of f) (root_of f)) row.0 in
    let each = rw c.map.ensures.f at done.1.2 in
    let zip = slice-AllZip done.1.0 f.rows (done.1.1 ∙ (slice ∙ c.rows.ensures.rows)) (λ row z. IsFirstOf (F row) z) done.0 each in
    first_of_rows g.row.P f c.rows.ensures.table c.reduce.result (first_of_reduced F f.rows done.0 c.reduce.result zip done.2)
