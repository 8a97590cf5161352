use Rattle.std.proofs.Common.{subst}
use Rattle.sp_word.specs.Word.{max_pred}
use Rattle.sp_packed.specs.Reading.{Told}
use Rattle.sp_packed.proofs.Whole.{read_text, told_of}
use Rattle.sp_packed.proofs.reading.read_packed_file.Goals as goal

pub returns-in-Ok-clause-exact : goal.returns-in-Ok-clause-exact
returns-in-Ok-clause-exact g c text e =
    let old = g.R.Read.left c.args.reader.now in
    let new = g.R.Read.left c.read_parts.new.reader in
    let file = c.in-Ok.file in
    read_text c.max_pred.result c.args.most_arcs file.n old new file.arcs.items c.in-Ok.ensures.parts text e

pub returns-in-Err-clause-exact : goal.returns-in-Err-clause-exact
returns-in-Err-clause-exact g c text e =
    let old = g.R.Read.left c.args.reader.now in
    let new = g.R.Read.left c.read_parts.new.reader in
    let broken = g.R.Read.has_failed c.read_parts.new.reader in
    told_of (max_pred g.row.P) c.args.most_arcs old new broken c.in-Err.fault
    (subst (λ k. Told k c.args.most_arcs old new broken c.in-Err.fault) c.max_pred.ensures c.in-Err.ensures.told) text e
