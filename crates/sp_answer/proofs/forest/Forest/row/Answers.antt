use Rattle.std.proofs.Common.{rules}
use Rattle.std.proofs.lemmas.List.Sorted.{answers_always}
use Rattle.sp_word.specs.Word.{max_dist}
use Rattle.sp_answer.proofs.ForestRows.{row_found, row_missing}
use Rattle.sp_answer.proofs.forest.Forest.row.Goals as goal

pub returns-in-Ok : goal.returns-in-Ok
returns-in-Ok g c =
    let facts = c.in-Ok.ensures {u = tt} in
    let found = facts.position (λ row. row.0) (answers_always _ _ _ (λ f a r g' called. search rules)) in
    rw (← c.self.view_is)
    (row_found (max_dist g.row.P) c.self.inside.n c.self.inside.rows.items c.args.vertex c.in-Ok.place c.index.result.now c.self.invariant.rows (rw c.deref.ensures.value at facts.bound) (rw c.deref.ensures.value at found) c.index.ensures)

pub returns-in-Err : goal.returns-in-Err
returns-in-Err g c =
    let facts = c.binary_search_by_key.ensures in
    let by_key = rw c.in-Err.is at (facts.position (λ row. row.0) (answers_always _ _ _ (λ f a r g' called. search rules))) in
    rw (← c.self.view_is) (row_missing (max_dist g.row.P) c.self.inside.n c.self.inside.rows.items c.args.vertex c.in-Err.field-0 c.self.invariant.rows (rw c.deref.ensures.value at by_key))
