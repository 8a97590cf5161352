use Rattle.std.proofs.Common.{rules, sym, subst}
use Rattle.sp_word.specs.Word.{max_dist}
use Rattle.sp_paths.specs.Paths.{word_at}
use Rattle.sp_judge.specs.Marked.{AreTrueMarks}
use Rattle.sp_judge.specs.Asked.{ShowsAsked}
use Rattle.sp_answer.specs.Run.{IsAsked}
use Rattle.sp_run.specs.Sources.{WalkSources}
use Rattle.sp_run.specs.RunFromAny.{IsOfWalks}
use Rattle.sp_run.proofs.RunFromAny.{walks_table}
use Rattle.sp_run.proofs.run.RunFromAny.judge.Goals as goal

pub judge_by-requires : goal.judge_by-requires
judge_by-requires g c =
    let run : WalkSources = record { graph = c.self.inside.graph.now; sources = c.self.inside.sources.now } in
    let place = c.self.invariant in
    let words = c.args.copy.words.now in
    let copy = subst (λ r. IsOfWalks g.row.P r words) (sym c.self.view_is) c.requires.copy in
    let hold = subst (λ (r : WalkSources). AreTrueMarks (max_dist g.row.P) r.graph (word_at words) c.args.copy.marks.now) (sym c.self.view_is) c.requires.marks in
    let asked = subst (λ (r : WalkSources). IsAsked g.row.P r.graph.n c.args.until) (sym c.self.view_is) c.requires.asked in
    (search rules, (search rules, (record { layout = place.layout; room = place.most; vertices = place.vertices; asked = asked; table = walks_table g.row.P run place words copy }, hold)))

pub returns : goal.returns
returns g c = subst (λ (r : WalkSources). ShowsAsked g.row.P r.graph r.sources c.args.until c.args.copy.words.now c.judge_by.result) c.self.view_is c.judge_by.ensures
