use Rattle.std.proofs.Common.{sym, arith}
use Rattle.sp_text.proofs.Quick.{leads, leads_none, small_is, large_is}
use Rattle.sp_text.proofs.numbers.leading_number.Goals as goal

pub returns-in-Some : goal.returns-in-Some
returns-in-Some c =
    let front = c.in-Some.ensures in
    leads c.args.text.now c.in-Some.value c.in-Some.end front.within front.digits front.behind front.starts (small_is c.in-Some.value _ front.small front.number)

pub returns-then-not-starts_number : goal.returns-then-not-starts_number
returns-then-not-starts_number c =
    let front = c.front_digits-value.ensures in
    leads_none c.args.text.now c.front_digits-value.result.1 front.within front.digits front.all (rw c.split_at.ensures.front at (sym c.if-not-starts_number.ensures))

pub returns-then-end-le-FEW_DIGITS : goal.returns-then-end-le-FEW_DIGITS
returns-then-end-le-FEW_DIGITS c =
    let front = c.front_digits-value.ensures in
    leads c.args.text.now c.front_digits-value.result.0 c.front_digits-value.result.1 front.within front.digits front.all (rw c.split_at.ensures.front at (sym c.if-not-starts_number.ensures)) (small_is c.front_digits-value.result.0 _ (omega arith) (front.number (omega arith)))

pub returns-in-Some-value_of : goal.returns-in-Some-value_of
returns-in-Some-value_of c =
    let front = c.front_digits-value.ensures in
    leads c.args.text.now c.in-Some-value_of.value c.front_digits-value.result.1 front.within front.digits front.all (rw c.split_at.ensures.front at (sym c.if-not-starts_number.ensures))
    (small_is c.in-Some-value_of.value _ (omega arith) (rw c.split_at.ensures.front at c.in-Some-value_of.ensures))

pub returns-in-None : goal.returns-in-None
returns-in-None c =
    let front = c.front_digits-value.ensures in
    leads c.args.text.now _ c.front_digits-value.result.1 front.within front.digits front.all (rw c.split_at.ensures.front at (sym c.if-not-starts_number.ensures)) (large_is _ (rw c.split_at.ensures.front at c.in-None.ensures))
