use Rattle.std.proofs.Common.{◌≡◌, true, false, arith, refl, sym, ◌∙◌}
use Rattle.sp_text.specs.Numeral.{starts_number}
use Rattle.sp_text.proofs.Digits.{is_number_parts}
use Rattle.sp_text.proofs.Quick.{quick_is}
use Rattle.sp_text.proofs.numbers.number.Goals as goal

pub returns-then-not-starts_number : goal.returns-then-not-starts_number
returns-then-not-starts_number c =
    let none : starts_number c.args.field.now ≡ false = sym c.if-not-starts_number.ensures in
    rw (is_number_parts c.args.field.now, none) refl

pub returns-in-Some : goal.returns-in-Some
returns-in-Some c =
    let some : starts_number c.args.field.now ≡ true = sym c.if-not-starts_number.ensures in
    c.ranged.ensures ∙ quick_is c.args.field.now c.in-Some.value c.in-Some.end c.args.least c.args.most c.in-Some.ensures (omega arith) some
