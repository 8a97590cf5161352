use Rattle.sp_word.specs.Word.{max_dist}
use Rattle.sp_cert.specs.Claims.{claim_of_forest}
use Rattle.sp_cert.specs.Rules.{IsCounted, IsForestOf}
use Rattle.sp_cert.specs.Certificate.{FailsOfForest}
use Rattle.sp_cert.proofs.Exact.{forest_rules_are_exact}
use Rattle.sp_cert.proofs.Verdict.{answered, says_yes, says_no, says_memory}
use Rattle.sp_cert.proofs.checking.check_forest.Goals as goal

pub returns-clause-yes : goal.returns-clause-yes
returns-clause-yes g c =
    let answer = answered (FailsOfForest g.row.P c.args.count c.args.limit c.args.graph.now c.args.forest.now) c.in_ok-first_of_forest.field-0 c.told.result (c.in_ok-first_of_forest.ensures {u = tt}).first c.told.ensures in
    let exact = forest_rules_are_exact g.row.P c.args.graph.now c.args.forest.now c.args.count c.args.limit c.first_of_forest.ensures.graph c.first_of_forest.ensures.table c.requires in
    says_yes c.args.graph.now (max_dist g.row.P) (IsCounted c.args.graph.now c.args.forest.now c.args.count) (claim_of_forest c.args.forest.now c.args.limit) (IsForestOf g.row.P c.args.graph.now c.args.forest.now c.args.count c.args.limit) exact c.told.result answer

pub returns-clause-no : goal.returns-clause-no
returns-clause-no g c =
    let answer = answered (FailsOfForest g.row.P c.args.count c.args.limit c.args.graph.now c.args.forest.now) c.in_ok-first_of_forest.field-0 c.told.result (c.in_ok-first_of_forest.ensures {u = tt}).first c.told.ensures in
    let exact = forest_rules_are_exact g.row.P c.args.graph.now c.args.forest.now c.args.count c.args.limit c.first_of_forest.ensures.graph c.first_of_forest.ensures.table c.requires in
    says_no c.args.graph.now (max_dist g.row.P) (IsCounted c.args.graph.now c.args.forest.now c.args.count) (claim_of_forest c.args.forest.now c.args.limit) (IsForestOf g.row.P c.args.graph.now c.args.forest.now c.args.count c.args.limit) exact c.told.result answer

pub returns-clause-exactly : goal.returns-clause-exactly
returns-clause-exactly g c =
    let answer = answered (FailsOfForest g.row.P c.args.count c.args.limit c.args.graph.now c.args.forest.now) c.in_ok-first_of_forest.field-0 c.told.result (c.in_ok-first_of_forest.ensures {u = tt}).first c.told.ensures in
    let exact = forest_rules_are_exact g.row.P c.args.graph.now c.args.forest.now c.args.count c.args.limit c.first_of_forest.ensures.graph c.first_of_forest.ensures.table c.requires in
    says_memory c.args.graph.now (max_dist g.row.P) (IsCounted c.args.graph.now c.args.forest.now c.args.count) (claim_of_forest c.args.forest.now c.args.limit) (IsForestOf g.row.P c.args.graph.now c.args.forest.now c.args.count c.args.limit) exact c.told.result answer
