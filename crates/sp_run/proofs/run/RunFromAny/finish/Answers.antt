use Rattle.std.proofs.Common.{sym, subst, arith}
use Rattle.sp_answer.specs.Run.{IsAsked, AreRunWords}
use Rattle.sp_run.specs.Sources.{WalkSources}
use Rattle.sp_run.specs.RunFromAny.{IsOfWalks}
use Rattle.sp_run.proofs.RunFromAny.{walks_table}
use Rattle.sp_run.proofs.run.RunFromAny.finish.Goals as goal

pub settle-far-requires : goal.settle-far-requires
settle-far-requires g c =
    let run : WalkSources = record { graph = c.self.inside.graph.now; sources = c.self.inside.sources.now } in
    let place = c.self.invariant in
    let words = c.args.words.items in
    let copy = subst (λ r. IsOfWalks g.row.P r words) (sym c.self.view_is) c.requires.copy in
    let asked = subst (λ (r : WalkSources). IsAsked g.row.P r.graph.n c.args.until) (sym c.self.view_is) c.requires.asked in
    (omega arith, record { layout = place.layout; room = place.most; vertices = place.vertices; asked = asked; table = walks_table g.row.P run place words copy })

pub returns : goal.returns
returns g c = subst (λ (r : WalkSources). AreRunWords g.row.P r.graph r.sources c.args.until c.settle-far.new.words.items c.settle-far.result) c.self.view_is c.settle-far.ensures
