use Rattle.std.proofs.Common.{◌≡◌, ◌∙◌, ℕ, List, Err, rules}
use Rattle.sp_command.specs.Answers.{Hinders}
use Rattle.sp_tools.specs.Verdicts.{FileJudged, TellsFault}
use Rattle.sp_tools.specs.CheckAnswers.{TreesJudged, AreTreesRefused, check_faults, check_paths}
use Rattle.sp_command.specs.declared.faults.FileKind.TheVariants as kind
use Rattle.sp_tools.specs.Early.{IsEarly, IsOfFile}
use Rattle.sp_tools.proofs.Opening.{early_answer, of_trees_early}
use Rattle.sp_tools.proofs.Texts.{ok_as, err_as, trees_judged, trees_refused}
use Rattle.sp_tools.proofs.check_all.find_verdicts.Goals as goal

pub returns-clause-judged : goal.returns-clause-judged
returns-clause-judged g c = λ gr trees texts.
    let graph = c.in_ok-graph.ensures.graph gr (c.new-gr.ensures.left ∙ c.in_ok-gr.ensures.graph.gives gr texts.0) in
    ok_as (λ all. FileJudged g.row.P c.args.limit c.in_ok-graph.graph trees all.items) (λ all. TreesJudged g.row.P c.args.given.now.direction c.args.limit gr trees all.items) c.judge_blocks.result
    (λ all is. trees_judged g.row.P c.args.limit gr trees c.in_ok-graph.graph all.items graph is) (c.judge_blocks.ensures.judged trees (c.in_ok-gr.ensures.file.gives trees texts.1))

pub returns-clause-refused : goal.returns-clause-refused
returns-clause-refused g c = λ gr trees texts.
    let graph = c.in_ok-graph.ensures.graph gr (c.new-gr.ensures.left ∙ c.in_ok-gr.ensures.graph.gives gr texts.0) in
    let failed = g.F.File.Read.has_failed c.judge_blocks.new.trees in
    err_as (TellsFault g.row.P trees failed) (Hinders (AreTreesRefused g.row.P c.args.given.now.direction gr trees)) c.judge_blocks.result
    (trees_refused g.row.P gr trees c.in_ok-graph.graph failed graph) (c.judge_blocks.ensures.refused trees (c.in_ok-gr.ensures.file.gives trees texts.1))

pub returns-clause-found : goal.returns-clause-found
returns-clause-found g c =
    let graph = c.in_ok-graph.ensures.found in
    ok_as (λ all. (text : List ℕ) × FileJudged g.row.P c.args.limit c.in_ok-graph.graph text all.items) (λ all. (gr trees : List ℕ) × TreesJudged g.row.P c.args.given.now.direction c.args.limit gr trees all.items) c.judge_blocks.result
    (λ all is. (graph.0, is.0, trees_judged g.row.P c.args.limit graph.0 is.0 c.in_ok-graph.graph all.items graph.1 is.1)) c.judge_blocks.ensures.found

pub returns-in_err-gr-clause-early : goal.returns-in_err-gr-clause-early
returns-in_err-gr-clause-early g c =
    let is : c.from_residual.result ≡ Err c.in_err-gr.field-0.0 = search rules in
    early_answer (check_faults g.row.P c.args.given.now) c.args.given.now (g.F.Inputs.files c.args.files.now) c.in_err-gr.field-0.0 c.from_residual.result is c.in_err-gr.ensures.once c.in_err-gr.ensures.closed

pub returns-clause-early : goal.returns-clause-early
returns-clause-early g c =
    let files = g.F.Inputs.files c.args.files.now in
    let own = check_faults g.row.P c.args.given.now in
    err_as (IsOfFile kind.Tree (g.F.File.Read.failing c.in_ok-gr.trees)) (IsEarly (check_paths c.args.given.now) own files) c.judge_blocks.result
    (of_trees_early own c.args.given.now files (g.F.File.Read.failing c.in_ok-gr.trees) c.in_ok-gr.ensures.file.failing) (c.judge_blocks.ensures.told c.in_ok-gr.ensures.file.sound)
