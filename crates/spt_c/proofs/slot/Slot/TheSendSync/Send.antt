-- A slot may go to another thread, since what is behind it may.
use mir.Raw.{raw}
use base.Shift.{Keyless}
use denote.Memory.{lone}
use base.Fraction.{full_share}
use denote.Exit.{Exit, unchanged, leaves, hidden, under}
use denote.RattleType.{RattleType}
use denote.RawPtr.{Ptr, block_ptr, null_ptr, lies_at}
use denote.Struct.Struct.{exits_of}
use denote.Struct.Owning.{shape, fields, to}
use denote.Param.Send.{IsSend, AllSend, Quiet, part_keyless, owning_send, struct_send, sendable}
use Rattle.std.specs.declared.option.Option.{Option}
use Rattle.std.specs.declared.option.Option.TheVariants.{None, Some}
use Rattle.std.proofs.Crossing as heap
use Rattle.spt_c.specs.contracts.shared.graph.SharedGraph as Shared
use Rattle.spt_c.proofs.shared.graph.SharedGraph.TheSendSync.{the_send as shared}
use Rattle.spt_c.specs.Owned.{slot_owns}
use Rattle.spt_c.specs.contracts.slot.Slot.{the_row, the_type}

quiet : {D X : Type 0} (to : D → X) (e : Exit X) → Quiet e → Quiet (hidden (under to e))
quiet to unchanged q = λ x w. tt
quiet to (leaves L l S s r₀) q = λ d. q (to d)

lies : (R : RattleType) → IsSend R → (p : Ptr) (x : R.Denot) → Keyless (lies_at R full_share p x)
lies R s (block_ptr b o) x = part_keyless R s full_share x b o
lies R s null_ptr x = tt

owns_keyless : (at : Ptr) (held : Option Shared.the_row.Denot) → Keyless (slot_owns at held)
owns_keyless at None = tt
owns_keyless at (Some x) = (lies Shared.the_row shared at x, heap.frees.frees _ (raw (lone Shared.the_row.mir)) at)

pub send : IsSend the_row
send =
    let all : AllSend (fields the_type) = (search sendable, tt) in
    owning_send the_type all (λ d. owns_keyless d.at d.shared)
    (λ k. quiet (to the_type) (exits_of k (fields the_type)) ((struct_send (shape the_type) all).leaving k))
