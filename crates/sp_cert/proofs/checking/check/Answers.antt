use Rattle.std.proofs.Common.{◌≡◌, None}
use Rattle.sp_word.specs.Word.{max_dist}
use Rattle.sp_cert.specs.Claims.{claim_of_tree}
use Rattle.sp_cert.specs.Certificate.{IsCertified, FailsOfTree}
use Rattle.sp_cert.proofs.Verdict.{answered, says_yes, says_no, says_memory, tree_exact}
use Rattle.sp_cert.proofs.checking.check.Goals as goal

pub returns-clause-yes : goal.returns-clause-yes
returns-clause-yes g c =
    let answer = answered (FailsOfTree g.row.P None c.args.graph.now c.args.tree.now) c.in_ok-first_of_tree.field-0 c.told.result (c.in_ok-first_of_tree.ensures {u = tt}).first c.told.ensures in
    let exact = tree_exact g.row.P c.args.graph.now c.args.tree.now c.first_of_tree.ensures.graph c.first_of_tree.ensures.table in
    says_yes c.args.graph.now (max_dist g.row.P) (c.args.tree.now.n ≡ c.args.graph.now.n) (claim_of_tree c.args.tree.now None) (IsCertified g.row.P c.args.graph.now c.args.tree.now) exact c.told.result answer

pub returns-clause-no : goal.returns-clause-no
returns-clause-no g c =
    let answer = answered (FailsOfTree g.row.P None c.args.graph.now c.args.tree.now) c.in_ok-first_of_tree.field-0 c.told.result (c.in_ok-first_of_tree.ensures {u = tt}).first c.told.ensures in
    let exact = tree_exact g.row.P c.args.graph.now c.args.tree.now c.first_of_tree.ensures.graph c.first_of_tree.ensures.table in
    says_no c.args.graph.now (max_dist g.row.P) (c.args.tree.now.n ≡ c.args.graph.now.n) (claim_of_tree c.args.tree.now None) (IsCertified g.row.P c.args.graph.now c.args.tree.now) exact c.told.result answer

pub returns-clause-exactly : goal.returns-clause-exactly
returns-clause-exactly g c =
    let answer = answered (FailsOfTree g.row.P None c.args.graph.now c.args.tree.now) c.in_ok-first_of_tree.field-0 c.told.result (c.in_ok-first_of_tree.ensures {u = tt}).first c.told.ensures in
    let exact = tree_exact g.row.P c.args.graph.now c.args.tree.now c.first_of_tree.ensures.graph c.first_of_tree.ensures.table in
    says_memory c.args.graph.now (max_dist g.row.P) (c.args.tree.now.n ≡ c.args.graph.now.n) (claim_of_tree c.args.tree.now None) (IsCertified g.row.P c.args.graph.now c.args.tree.now) exact c.told.result answer
