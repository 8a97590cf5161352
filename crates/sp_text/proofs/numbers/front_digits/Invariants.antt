use Rattle.std.proofs.Common.{◌≡◌, ◌<◌, ◌≤◌, ◌^◌, true, take}
use Rattle.std.specs.List.{list_all}
use Rattle.std.specs.Char.{is_ascii_digit}
use Rattle.sp_text.specs.Lines.{value}
use Rattle.sp_text.proofs.numbers.front_digits.Given as goal

abbrev pub invariant-loop-end : goal.invariant-loop-end
invariant-loop-end l = record {
  number : l.end ≤ 19 → (l.value ≡ value (take l.end l.text)) × (l.value < 10 ^ l.end);
  digits : list_all is_ascii_digit (take l.end l.text) ≡ true;
}
