use Rattle.sp_device.specs.contracts.peeked.PeekedRead.TheImpl.{ghosts as peeked}
use Rattle.sp_tools.proofs.Texts.{graph_refused, graph_told}
use Rattle.sp_tools.proofs.graphs.read_graph.Goals as goal

pub returns-in-Err-clause-refused : goal.returns-in-Err-clause-refused
returns-in-Err-clause-refused g c = λ text known. rw c.fault_of.ensures (graph_refused g.row.P c.args.settings.now.direction text (peeked g.row.D g.D.Read g.D.Read-dict) c.read_graph.new.gr _ (c.in-Err.ensures.exact text known))

pub returns-clause-graph : goal.returns-clause-graph
returns-clause-graph g c = λ text known. record { graph = _; spelled = c.in-Ok.ensures.exact text known; n = c.in_ok-build.ensures.n; each = c.in_ok-build.ensures.each }

pub returns-in-Err-clause-told : goal.returns-in-Err-clause-told
returns-in-Err-clause-told g c = rw c.fault_of.ensures (graph_told _ _ c.in-Err.ensures.may_fail)

pub returns-clause-found : goal.returns-clause-found
returns-clause-found g c =
    let found = c.in-Ok.ensures.found in
    (found.0, record { graph = _; spelled = found.1; n = c.in_ok-build.ensures.n; each = c.in_ok-build.ensures.each })
