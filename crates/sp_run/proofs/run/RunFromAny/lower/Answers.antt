use Rattle.std.proofs.Common.{sym, subst, arith, ◌∙◌}
use Rattle.sp_word.specs.Word.{max_dist}
use Rattle.sp_paths.specs.Paths.{word_at}
use Rattle.sp_offer.specs.Story.{known_table}
use Rattle.sp_judge.specs.Marked.{AreTrueMarks}
use Rattle.sp_run.proofs.Marks.{marks_copied}
use Rattle.sp_run.specs.Sources.{WalkSources}
use Rattle.sp_run.specs.RunFromAny.{TakesWalks}
use Rattle.sp_run.proofs.RunFromAny.{table_ready}
use Rattle.sp_run.proofs.run.RunFromAny.lower.Goals as goal

pub relax_all-caller-requires-after_bounds : goal.relax_all-caller-requires-after_bounds
relax_all-caller-requires-after_bounds g c κs within =
    let run : WalkSources = record { graph = c.self.inside.graph.now; sources = c.self.inside.sources.now } in
    let table = c.args.table.now in
    let takes : TakesWalks run table.law table.vertices = subst (λ r. TakesWalks r table.law table.vertices) (sym c.self.view_is) c.requires.table in
    (omega arith, (omega arith, (table_ready g.row.P run c.self.invariant table.law table.vertices takes, c.requires.caller)))

pub returns-clause-marks : goal.returns-clause-marks
returns-clause-marks g c =
    let run : WalkSources = record { graph = c.self.inside.graph.now; sources = c.self.inside.sources.now } in
    let table = c.args.table.now in
    let takes : TakesWalks run table.law table.vertices = subst (λ r. TakesWalks r table.law table.vertices) (sym c.self.view_is) c.requires.table in
    let place = c.self.invariant in
    let max = max_dist g.row.P in
    let done = c.relax_all-caller.result in
    let words = c.in_ok-words.words.items in
    let hold = marks_copied max run.graph place.graph (known_table done.caller.story) words (c.in_ok-words.ensures.length ∙ takes.1) c.in_ok-words.ensures.copy.below done.marks.items c.relax_all-caller.ensures.marks in
    subst (λ (r : WalkSources). AreTrueMarks max r.graph (word_at words) done.marks.items) c.self.view_is hold
