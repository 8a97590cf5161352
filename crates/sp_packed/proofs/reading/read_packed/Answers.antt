use Rattle.std.proofs.Common.{sym, subst, ◌∙◌}
use Rattle.std.specs.List.Sorted.{IsPermutation}
use Rattle.std.proofs.lemmas.List.Sorted.{IsPermutation-refl}
use Rattle.sp_word.specs.Word.{max_pred}
use Rattle.sp_packed.specs.File.{file_graph}
use Rattle.sp_packed.proofs.TextLaws.{one_text, same_within}
use Rattle.sp_packed.proofs.reading.read_packed.Goals as goal

pub returns-clause-exact : goal.returns-clause-exact
returns-clause-exact g c text e =
    let whole = c.in-Ok.ensures.exact text e in
    let items = c.in-Ok.file.arcs.items in
    let perm = subst (λ l. IsPermutation items l) (sym c.from_rows.ensures.arcs) (IsPermutation-refl items) in
    (whole.0, whole.1 ∙ one_text (file_graph c.in-Ok.file) c.from_rows.result (sym c.from_rows.ensures.n) perm)

pub returns-clause-within : goal.returns-clause-within
returns-clause-within g c =
    let items = c.in-Ok.file.arcs.items in
    let perm = subst (λ l. IsPermutation items l) (sym c.from_rows.ensures.arcs) (IsPermutation-refl items) in
    same_within (max_pred g.row.P) c.args.most_arcs (file_graph c.in-Ok.file) c.from_rows.result c.from_rows.ensures.n perm c.in-Ok.ensures.within
