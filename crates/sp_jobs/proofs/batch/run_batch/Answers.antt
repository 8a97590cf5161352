use Rattle.std.proofs.Common.{None, refl}
use Rattle.sp_dimacs.specs.Graph.{graph_of}
use Rattle.sp_network.specs.Network.{directed}
use Rattle.sp_device.specs.contracts.peeked.PeekedRead.TheImpl.{ghosts as peeked}
use Rattle.sp_network.specs.declared.directions.Direction.TheVariants.{AsGiven}
use Rattle.sp_jobs.proofs.Files.{sources_spelled}
use Rattle.sp_jobs.specs.Batch.{IsBatch}
use Rattle.sp_jobs.specs.Listing.{MayRead}
use Rattle.sp_jobs.specs.Network.{IsGraphRefused, MayReadGraph}
use Rattle.sp_jobs.specs.Answered.{IsListRefused, IsListFault}
use Rattle.sp_jobs.proofs.Outcomes.{late, answered, of_some, may_fail, of_graph, refused, refused_some, fault_may_fail}
use Rattle.sp_jobs.proofs.batch.run_batch.Goals as goal

pub returns-in_err-file-clause-exact : goal.returns-in_err-file-clause-exact
returns-in_err-file-clause-exact g c = λ gr_text ss_text gr_is ss_is.
    let no_graph = IsGraphRefused g.row.P AsGiven gr_text (peeked g.row.G g.G.Read g.G.Read-dict) c.read_graph.new.gr in
    let no_list = IsListFault g.row.P AsGiven gr_text (IsListRefused g.row.P ss_text g.S.Read c.args.ss.now) in
    refused (IsBatch g.row.P None) _ _ _ _ _ _ _ _ c.from_residual.result c.from_residual.ensures.1 (of_graph no_graph no_list _ (c.in_err-file.ensures.exact gr_text gr_is)) refl

pub returns-in_err-file-clause-found : goal.returns-in_err-file-clause-found
returns-in_err-file-clause-found g c = refused_some (IsBatch g.row.P None) _ _ _ _ (λ e. ⊥) _ _ c.from_residual.result c.from_residual.ensures.1 c.in_err-file.ensures.may_fail refl

pub returns-in_err-file-clause-may_fail : goal.returns-in_err-file-clause-may_fail
returns-in_err-file-clause-may_fail g c =
    let gr = (peeked g.row.G g.G.Read g.G.Read-dict).failing c.args.gr.now in
    let ss = MayRead (g.S.Read.failing c.args.ss.now) in
    fault_may_fail gr ss (λ e. ⊥) _ c.from_residual.result c.from_residual.ensures.1 (of_graph (MayReadGraph gr) ss _ c.in_err-file.ensures.may_fail)

pub returns-in-Err-clause-exact : goal.returns-in-Err-clause-exact
returns-in-Err-clause-exact g c = λ gr_text ss_text gr_is ss_is.
    ((directed AsGiven (graph_of c.in_ok-file.file), c.in_ok-file.ensures.exact gr_text gr_is), c.in-Err.ensures.exact ss_text ss_is, refl)

pub returns-clause-exact : goal.returns-clause-exact
returns-clause-exact g c = λ gr_text ss_text gr_is ss_is.
    let list = c.in-Ok.list in
    let done = rw c.chosen-sources.ensures.part at c.answer_batch.ensures.batch in
    answered (IsBatch g.row.P None) _ _ c.answer_batch.result (late _ _ _ _ _ c.answer_batch.result done) (record {
      graph = directed AsGiven (graph_of c.in_ok-file.file);
      sources = list.sources.items;
      spells_graph = c.in_ok-file.ensures.exact gr_text gr_is;
      are_asked = (list, sources_spelled g.row.P ss_text _ (g.S.Read.has_failed c.read_ss.new.reader) list (c.in-Ok.ensures.exact ss_text ss_is), refl);
      done = done;
    })

pub returns-clause-found : goal.returns-clause-found
returns-clause-found g c =
    let list = c.in-Ok.list in
    let done = rw c.chosen-sources.ensures.part at c.answer_batch.ensures.batch in
    of_some (IsBatch g.row.P None) _ c.in_ok-file.ensures.found.0 c.in-Ok.ensures.found.0 c.answer_batch.result (late _ _ _ _ _ c.answer_batch.result done) (record {
      graph = directed AsGiven (graph_of c.in_ok-file.file);
      sources = list.sources.items;
      spells_graph = c.in_ok-file.ensures.found.1;
      are_asked = (list, c.in-Ok.ensures.found.1, refl);
      done = done;
    })

pub returns-in-Err-clause-may_fail : goal.returns-in-Err-clause-may_fail
returns-in-Err-clause-may_fail g c = λ read never. c.in-Err.ensures.never never read

pub returns-clause-may_fail : goal.returns-clause-may_fail
returns-clause-may_fail g c = may_fail _ _ _ c.answer_batch.result (late _ _ _ _ _ c.answer_batch.result c.answer_batch.ensures.batch)
