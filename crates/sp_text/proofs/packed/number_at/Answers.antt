use Rattle.std.proofs.Common.{◌≡◌, ◌/◌, ◌^◌, drop, ap, arith}
use Rattle.std.specs.Int.Count.{count_trailing_zeros}
use Rattle.sp_text.proofs.Lanes.{others_digits, number_front, number_some}
use Rattle.sp_text.proofs.packed.number_at.Goals as goal

pub packed_value-requires-clause-digits : goal.packed_value-requires-clause-digits
packed_value-requires-clause-digits c =
    let digits : c.split_at.result.1.now ≡ drop c.args.place c.args.text.now = c.split_at.ensures.back in
    rw digits (others_digits c.args.text.now c.args.place _ (omega arith) (ap (λ n. count_trailing_zeros 64 (n / 2 ^ c.args.place)) c.requires.bits) c.if-count-gt8.false).1

pub returns-clause-number : goal.returns-clause-number
returns-clause-number c =
    let digits : c.split_at.result.1.now ≡ drop c.args.place c.args.text.now = c.split_at.ensures.back in
    number_front c.args.text.now c.args.place c.packed_value.result _ c.requires.room (ap (λ n. count_trailing_zeros 64 (n / 2 ^ c.args.place)) c.requires.bits) c.if-count-eq0.false c.if-count-gt8.false
    c.if-text-place-eq48.false c.packed_value.type_inv (rw digits at c.packed_value.ensures)

pub returns-clause-positive : goal.returns-clause-positive
returns-clause-positive c =
    let digits : c.split_at.result.1.now ≡ drop c.args.place c.args.text.now = c.split_at.ensures.back in
    number_some c.args.text.now c.args.place c.packed_value.result _ c.requires.room (ap (λ n. count_trailing_zeros 64 (n / 2 ^ c.args.place)) c.requires.bits) c.if-count-eq0.false c.if-count-gt8.false
    c.if-text-place-eq48.false (rw digits at c.packed_value.ensures)

pub returns-clause-within : goal.returns-clause-within
returns-clause-within c =
    (others_digits c.args.text.now c.args.place _ (omega arith) (ap (λ n. count_trailing_zeros 64 (n / 2 ^ c.args.place)) c.requires.bits) c.if-count-gt8.false).0
