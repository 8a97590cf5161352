-- The results of calls for a place that another call uses.
use Rattle.spt_c.specs.declared.answers.SptAnswer.{SptAnswer}
use Rattle.spt_c.specs.declared.answers.SptBatch.{SptBatch}
use Rattle.spt_c.specs.declared.answers.SptPart.{SptPart}
use Rattle.spt_c.specs.declared.found.SptFound.{SptFound}
use Rattle.spt_c.specs.declared.routes.SptRoute.{SptRoute}
use Rattle.spt_c.specs.declared.counts.SptCounts.{SptCounts}
use Rattle.spt_c.specs.declared.packing.SptPacked.{SptPacked}
use Rattle.spt_c.specs.declared.packing.SptSaved.{SptSaved}

-- 12 is the number of the header. Each other field is 0.
abbrev pub answer_in_use : SptAnswer
answer_in_use = record { status = 12; vertex = 0; index = 0 }

-- The same for a call for several sources.
abbrev pub batch_in_use : SptBatch
batch_in_use = record { status = 12; vertex = 0; index = 0; done = 0 }

-- The same for a call that lists a part.
abbrev pub part_in_use : SptPart
part_in_use = record { status = 12; count = 0 }

-- The same for a call for a target.
abbrev pub found_in_use : SptFound
found_in_use = record { status = 12; pred = 0; dist = 0; index = 0 }

-- The same for a call for a route.
abbrev pub route_in_use : SptRoute
route_in_use = record { status = 12; vertex = 0; dist = 0; index = 0; count = 0 }

-- The same for a call for the size of a graph.
abbrev pub counts_in_use : SptCounts
counts_in_use = record { status = 12; n = 0; m = 0 }

-- The same for a call that loads a packed graph.
abbrev pub packed_in_use : SptPacked
packed_in_use = record { status = 12; n = 0; m = 0; kind = 0; letter = 0; byte = 0 }

-- The same for a call that packs a graph.
abbrev pub saved_in_use : SptSaved
saved_in_use = record { status = 12; count = 0 }
