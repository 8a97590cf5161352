-- The question of a call.
use Rattle.spt_c.specs.declared.calls.TreesRequest.{TreesRequest}
use Rattle.spt_c.specs.Asked.{AskedTrees, asked}

-- The question as definitions state it.
abbrev pub asked_by : TreesRequest → AskedTrees
asked_by q = asked q.arcs.now q.n q.sources.now q.delta
