use Rattle.std.proofs.Common.{◌≡◌, ◌<◌, true, length, get_or, arith, refl, sym, ◌∙◌}
use Rattle.std.proofs.lemmas.List.Folds.{list_all_more}
use Rattle.std.specs.Char.{is_ascii_digit}
use Rattle.sp_text.proofs.Digits.{wrapped_more}
use Rattle.sp_text.proofs.numbers.front_digits.Goals as goal

pub loop-end-preserved : goal.loop-end-preserved
loop-end-preserved c =
    let bytes = c.args.text.now in
    let i = c.loop-end.end in
    let within : i < length bytes = omega arith in
    let digit : is_ascii_digit (get_or bytes i 0) ≡ true = sym c.if-not-is_ascii_digit.ensures.value in
    record {
      number = λ few. let before = c.loop-end.invariant.number (omega arith) in wrapped_more bytes i c.loop-end.value _ within few before.0 before.1 digit refl;
      digits = list_all_more is_ascii_digit bytes i 0 within ∙ rw (c.loop-end.invariant.digits, digit) refl;
    }
