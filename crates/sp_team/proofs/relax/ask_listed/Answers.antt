use Rattle.std.proofs.Common.{◌<◌, subst, arith}
use Rattle.sp_word.specs.Word.{max_dist}
use Rattle.sp_team.specs.Requests.{AsksAll}
use Rattle.sp_team.proofs.Rows.{firsts}
use Rattle.sp_team.proofs.relax.ask_listed.Goals as goal

pub returns-clause-asked : goal.returns-clause-asked
returns-clause-asked g c = λ yes.
    let row = c.args.row.now in
    let last = c.in-Some.last in
    let few : last < 4 = omega (arith, c.if-last-ge-FEW.false) in
    subst (λ arcs. AsksAll g.row.P (max_dist g.row.P) arcs c.args.dist c.args.requests.now.items c.ask_four.new.requests.items)
    (firsts row _ c.min.result c.min-2.result last c.in-Some.ensures.0 c.in-Some.ensures.1 few c.min.ensures c.min-2.ensures) (c.ask_four.ensures.asked yes)
