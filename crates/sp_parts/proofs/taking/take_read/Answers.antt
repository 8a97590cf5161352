use Rattle.std.specs.Arc.{arc_value}
use Rattle.sp_parts.proofs.OneProof.{parts_along}
use Rattle.sp_parts.proofs.taking.take_read.Goals as goal

pub returns : goal.returns
returns g c = λ front ps small is problem behind.
    let read = c.args.read.now in
    let parts = parts_along g.K.Keep.format g.K.Keep.ranges g.K.Keep.Kept g.O.Origin.problem (arc_value read.piece.group) read.parts.items g.met.K.KeepAcross.one_proof read.read ps is in
    (rw (c.bytes.ensures, c.deref.ensures, c.deref-2.ensures.value) at c.take_parts.ensures) front ps small problem parts behind
