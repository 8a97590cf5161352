use Rattle.std.proofs.Common.{refl}
use Rattle.sp_text.proofs.Lanes.{counted_digits, packed_digits}
use Rattle.sp_text.proofs.packed.packed_number.Goals as goal

pub packed_value-requires-clause-digits : goal.packed_value-requires-clause-digits
packed_value-requires-clause-digits c = (counted_digits c.args.text.now _ c.if-text-lt8.false c.type_inv.text refl c.if-count-gt7.false).0

pub returns : goal.returns
returns c =
    packed_digits c.args.text.now c.packed_value.result _ c.if-text-lt8.false c.packed_value.type_inv c.packed_value.ensures
    (counted_digits c.args.text.now _ c.if-text-lt8.false c.type_inv.text refl c.if-count-gt7.false) c.if-count-eq0.false c.if-count-gt7.false
