use Rattle.std.specs.Arc.{arc_value}
use Rattle.std.proofs.lemmas.List.Elements.{All-weaker}
use Rattle.sp_parts.specs.Parts.{IsPartOf, IsPart}
use Rattle.sp_parts.proofs.pieces.read_piece.Goals as goal

pub invariant_of-result : goal.invariant_of-result
invariant_of-result g c =
    let text = arc_value c.args.piece.group in
    let read = rw (c.bytes.ensures, c.deref.ensures) at c.read_parts-parts.ensures in
    record {
      read = ∣ (λ ps is.
          All-weaker (IsPart {keeper = g.K.Keep} c.args.reader.now text) (IsPartOf g.K.Keep.format g.K.Keep.ranges g.K.Keep.Kept ps text) (λ part h. h ps (c.requires ps is)) c.read_parts-parts.result.items read) ∣₁;
    }
