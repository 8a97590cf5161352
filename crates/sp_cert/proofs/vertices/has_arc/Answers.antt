use Rattle.std.proofs.Common.{rules}
use Rattle.std.proofs.lemmas.List.Sorted.{answers_always}
use Rattle.sp_cert.proofs.RowSteps.{search_finds}
use Rattle.sp_cert.proofs.vertices.has_arc.Goals as goal

pub returns : goal.returns
returns c =
    let found = c.binary_search_by_key.ensures.position (λ a. (a.head, a.len)) (answers_always _ _ _ (λ a r q k. search rules)) in
    rw c.is_ok.ensures.value (search_finds c.args.head c.args.len c.args.row.now c.binary_search_by_key.result c.requires c.binary_search_by_key.ensures.bound found)
