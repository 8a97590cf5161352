use Rattle.std.proofs.Common.{ap, ◌∙◌}
use Rattle.rayon.proofs.ToStd.{slice-AllZip}
use Rattle.sp_word.specs.Word.{max_dist}
use Rattle.sp_paths.specs.Paths.{word_at}
use Rattle.sp_cert.specs.Faults.{IsFirstOf, FaultBy}
use Rattle.sp_cert.proofs.FirstSteps.{first_of_reduced}
use Rattle.sp_cert.proofs.arcs.first_of_arcs.Goals as goal

pub returns : goal.returns
returns g c =
    let slice = ap (λ it. it.slice.now) c.map.ensures.base ∙ c.par_iter.ensures in
    let done = c.reduce.ensures in
    let F = FaultBy (max_dist g.row.P) c.args.limit (word_at c.args.words.now) in
    let each = rw c.map.ensures.f at done.1.2 in
    let zip = slice-AllZip done.1.0 c.args.arcs.now (done.1.1 ∙ slice) (λ arc z. IsFirstOf (F arc) z) done.0 each in
    first_of_reduced F c.args.arcs.now done.0 c.reduce.result zip done.2
