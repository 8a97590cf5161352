-- What a pointer owns: a box with an owner of a graph, or nothing.
use base.Fml.{Fml, ftrue}
use base.Stored.{Coded}
use denote.RawPtr.{Ptr}
use Rattle.std.specs.Box.Ownership.{box_owns}
use Rattle.std.specs.Global.{Global}
use Rattle.std.specs.declared.option.Option.{Option}
use Rattle.std.specs.declared.option.Option.TheVariants.{None, Some}
use Rattle.std.specs.contracts.impls.GlobalAllocator.TheImpl.{ghosts}
use Rattle.spt_c.specs.contracts.shared.graph.SharedGraph.{the_row}

-- This is the heap of the C library.
abbrev pub heap : Global
heap = record { memory = record { seal = tt } }

-- What a pointer owns: nothing, or the box of an owner, with the right to free it.
abbrev pub slot_owns : Ptr → Option the_row.Denot → Fml
slot_owns at None = ftrue
slot_owns at (Some shared) = box_owns (ghosts.dealloc_token heap) the_row at shared

-- The encoding of shared graphs.
abbrev pub shared_coded : Coded the_row.Denot
shared_coded = the_row.coded
