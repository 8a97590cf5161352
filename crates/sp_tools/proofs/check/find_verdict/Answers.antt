use Rattle.std.proofs.Common.{◌≡◌, ◌∙◌, Err, rules}
use Rattle.sp_tools.specs.CheckAnswers.{check_faults}
use Rattle.sp_tools.proofs.Opening.{early_answer}
use Rattle.sp_tools.proofs.Texts.{tree_judged, some_tree_judged}
use Rattle.sp_tools.proofs.check.find_verdict.Goals as goal

pub returns-in-Err-clause-refused : goal.returns-in-Err-clause-refused
returns-in-Err-clause-refused g c = λ gr tree texts.
    let graph = c.in_ok-graph.ensures.graph gr (c.new-gr.ensures.left ∙ c.in_ok-gr.ensures.graph.gives gr texts.0) in
    rw c.fault.ensures ((graph.graph, graph.spelled), (g.F.File.Read.left c.read_tree_or_forest.new.reader, g.F.File.Read.has_failed c.read_tree_or_forest.new.reader, c.in-Err.ensures.exact tree (c.in_ok-gr.ensures.file.gives tree texts.1)))

pub returns-clause-judged : goal.returns-clause-judged
returns-clause-judged g c = λ gr tree texts.
    tree_judged g.row.P c.args.limit gr tree c.in_ok-graph.graph (g.F.File.Read.left c.read_tree_or_forest.new.reader) (g.F.File.Read.has_failed c.read_tree_or_forest.new.reader) c.in-Ok.held c.in_ok-judge_either.field-0 c.in_ok-graph.ensures.sound c.requires.limit
    (c.in_ok-graph.ensures.graph gr (c.new-gr.ensures.left ∙ c.in_ok-gr.ensures.graph.gives gr texts.0)) (c.in-Ok.ensures.exact tree (c.in_ok-gr.ensures.file.gives tree texts.1)) c.in-Ok.ensures.found c.in_ok-judge_either.ensures

pub returns-clause-found : goal.returns-clause-found
returns-clause-found g c =
    some_tree_judged g.row.P c.args.limit c.in_ok-graph.graph c.in-Ok.held c.in_ok-judge_either.field-0 c.in_ok-graph.ensures.sound c.requires.limit c.in_ok-graph.ensures.found c.in-Ok.ensures.found c.in_ok-judge_either.ensures

pub returns-in_err-gr-clause-early : goal.returns-in_err-gr-clause-early
returns-in_err-gr-clause-early g c =
    let is : c.from_residual.result ≡ Err c.in_err-gr.field-0.0 = search rules in
    early_answer (check_faults g.row.P c.args.given.now) c.args.given.now (g.F.Inputs.files c.args.files.now) c.in_err-gr.field-0.0 c.from_residual.result is c.in_err-gr.ensures.once c.in_err-gr.ensures.closed
