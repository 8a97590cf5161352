use Rattle.std.proofs.Common.{Err, refl}
use Rattle.std.proofs.lemmas.Result.{err_from_is_err_and}
use Rattle.sp_dimacs.specs.Graph.{graph_of}
use Rattle.sp_network.specs.Network.{directed}
use Rattle.sp_device.specs.contracts.peeked.PeekedRead.TheImpl.{ghosts as peeked}
use Rattle.sp_dimacs.specs.Pairs.{PairsRead}
use Rattle.sp_jobs.specs.Network.{IsGraphRefused}
use Rattle.sp_jobs.specs.Answered.{wrote_by}
use Rattle.sp_jobs.proofs.Files.{pairs_spelled}
use Rattle.sp_jobs.proofs.Outcomes.{by_graph_fault}
use Rattle.sp_pairs.specs.Pairs.{PairsAnswered, PairsOfSome, MayFail}
use Rattle.sp_pairs.proofs.TextsToPairs.{pairs_late, pairs_told, pairs_of_some, may_fail}
use Rattle.sp_pairs.proofs.pairs.run_pairs_told.Goals as goal

pub returns-in_err-file-clause-exact : goal.returns-in_err-file-clause-exact
returns-in_err-file-clause-exact g c = λ gr_text list_text gr_is list_is.
    let p = err_from_is_err_and c.from_residual.result c.from_residual.ensures.1 in
    let wrote = wrote_by g.W.Write c.args.out.now c.args.out.now in
    rw (p.1, p.2) (by_graph_fault (λ e. PairsAnswered g.A.PairLine.kind g.row.P c.args.settings.now.direction gr_text list_text (peeked g.row.G g.G.Read g.G.Read-dict) c.read_graph.new.gr g.S.Read c.args.pairs.now wrote (Err e))
    (IsGraphRefused g.row.P c.args.settings.now.direction gr_text (peeked g.row.G g.G.Read g.G.Read-dict) c.read_graph.new.gr) _ (c.in_err-file.ensures.exact gr_text gr_is) (λ e no. (no, refl)))

pub returns-in_err-file-clause-found : goal.returns-in_err-file-clause-found
returns-in_err-file-clause-found g c =
    let p = err_from_is_err_and c.from_residual.result c.from_residual.ensures.1 in
    let wrote = wrote_by g.W.Write c.args.out.now c.args.out.now in
    rw (p.1, p.2) (by_graph_fault (λ e. PairsOfSome g.A.PairLine.kind g.row.P c.args.settings.now.direction wrote (Err e)) _ _ c.in_err-file.ensures.may_fail (λ e no. refl))

pub returns-in_err-file-clause-may_fail : goal.returns-in_err-file-clause-may_fail
returns-in_err-file-clause-may_fail g c =
    let p = err_from_is_err_and c.from_residual.result c.from_residual.ensures.1 in
    rw (p.1, p.2) (by_graph_fault (MayFail _ (g.S.Read.failing c.args.pairs.now)) _ _ c.in_err-file.ensures.may_fail (λ e no. no))

pub returns-in-Err-clause-exact : goal.returns-in-Err-clause-exact
returns-in-Err-clause-exact g c = λ gr_text list_text gr_is list_is. ((directed c.args.settings.now.direction (graph_of c.in_ok-file.file), c.in_ok-file.ensures.exact gr_text gr_is), c.in-Err.ensures.exact list_text list_is, refl)

pub returns-clause-exact : goal.returns-clause-exact
returns-clause-exact g c = λ gr_text list_text gr_is list_is.
    pairs_told g.A.PairLine.kind g.row.P c.args.settings.now.direction gr_text list_text (wrote_by g.W.Write c.args.out.now c.answer_pairs.new.out) c.answer_pairs.result (record {
      graph = directed c.args.settings.now.direction (graph_of c.in_ok-file.file);
      list = c.in-Ok.list;
      spells_graph = c.in_ok-file.ensures.exact gr_text gr_is;
      spells_pairs = pairs_spelled g.row.P list_text _ (g.S.Read.has_failed c.read_pairs.new.reader) c.in-Ok.list (c.in-Ok.ensures.exact list_text list_is);
      done = c.answer_pairs.ensures.done;
    }) (IsGraphRefused g.row.P c.args.settings.now.direction gr_text (peeked g.row.G g.G.Read g.G.Read-dict) c.read_graph.new.gr) (λ e. PairsRead g.row.P list_text (g.S.Read.left c.read_pairs.new.reader) (g.S.Read.has_failed c.read_pairs.new.reader) (Err e))

pub returns-clause-found : goal.returns-clause-found
returns-clause-found g c =
    let graph = c.in_ok-file.ensures.found in
    let pairs = c.in-Ok.ensures.found in
    pairs_of_some g.A.PairLine.kind g.row.P c.args.settings.now.direction graph.0 pairs.0 (wrote_by g.W.Write c.args.out.now c.answer_pairs.new.out) c.answer_pairs.result
    (record { graph = directed c.args.settings.now.direction (graph_of c.in_ok-file.file); list = c.in-Ok.list; spells_graph = graph.1; spells_pairs = pairs.1; done = c.answer_pairs.ensures.done })

pub returns-in-Err-clause-may_fail : goal.returns-in-Err-clause-may_fail
returns-in-Err-clause-may_fail g c = λ read never. c.in-Err.ensures.never never read

pub returns-clause-may_fail : goal.returns-clause-may_fail
returns-clause-may_fail g c =
    let wrote = wrote_by g.W.Write c.args.out.now c.answer_pairs.new.out in
    may_fail _ (g.S.Read.failing c.args.pairs.now) c.answer_pairs.result (pairs_late g.A.PairLine.kind g.row.P wrote (directed c.args.settings.now.direction (graph_of c.in_ok-file.file)) c.in-Ok.list.pairs.items c.answer_pairs.result c.answer_pairs.ensures.done)
