-- The graph that a place keeps, if it keeps one, and whether a call uses the place.
use Rattle.std.specs.Prelude.{◌≡◌, ◌≢◌, ◌↔◌}
use Rattle.sp_paths.specs.Paths.{Graph}
use Rattle.std.specs.declared.option.Option.{Option}
use Rattle.std.specs.declared.option.Option.TheVariants.{None, Some}
use Rattle.spt_c.specs.declared.shared.graph.SharedGraph.{SharedGraph}
use Rattle.spt_c.specs.declared.shared.graph.HeldGraph.{HeldGraph}
use Rattle.spt_c.specs.declared.place.KeptGraph.{KeptGraph}
use Rattle.spt_c.specs.declared.place.calls.Taken.{Taken}
use Rattle.spt_c.specs.declared.place.calls.Taken.TheVariants.{Graph as GraphTaken, Nothing, InUse}
use Rattle.spt_c.specs.Owners.{owned, held}

-- The graph of an owner, if there is one.
abbrev pub owned_by : Option SharedGraph → Option Graph
owned_by None = None
owned_by (Some shared) = Some (owned shared)

-- The graph of an owner that is out of its place, if there is one.
abbrev pub held_by : Option HeldGraph → Option Graph
held_by None = None
held_by (Some out) = Some (held out)

-- The graph that a place keeps, if it keeps one. A place in use keeps none: the call has it.
abbrev pub kept : KeptGraph → Option Graph
kept place = owned_by place.slot.shared

-- A call has taken the place and has not given it back.
abbrev pub IsInUse : KeptGraph → Type 0
IsInUse place = place.state ≡ 2

-- No call uses the place.
abbrev pub IsFree : KeptGraph → Type 0
IsFree place = place.state ≢ 2

-- The place keeps what it kept, and is in use if it was.
abbrev pub IsSame : (old new : KeptGraph) → Type 0
IsSame old new = (kept new ≡ kept old) × (IsInUse new ↔ IsInUse old)

-- A call that asks has found this in the place. It has written the place only if it has the graph.
abbrev pub IsTaken : (old new : KeptGraph) → Taken → Type 0
IsTaken old new (GraphTaken out) = IsFree old × (kept old ≡ Some (held out)) × IsInUse new
IsTaken old new Nothing = IsFree old × (kept old ≡ None) × (new ≡ old)
IsTaken old new InUse = IsInUse old × (new ≡ old)
