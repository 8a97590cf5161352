use Rattle.std.proofs.Common.{ℕ, ◌+◌, ◌≤◌, List, [], length}
use Rattle.sp_text.specs.declared.matching.FieldCheck.{FieldCheck}
use Rattle.sp_text.specs.Lines.{fields_from}
use Rattle.sp_text.specs.Text.{numbers}
use Rattle.sp_text.specs.Matching.{Spells}
use Rattle.sp_text.proofs.matching.take_numbers.Given as goal

-- What the fields that are left show, the whole line shows.
abbrev pub invariant-loop-fields : goal.invariant-loop-fields
invariant-loop-fields l = record {
  room : length l.values + length l.fields ≤ 4;
  spells : (new : List ℕ) (result : FieldCheck) → Spells l.ranges l.problem l.fields (numbers l.fields (fields_from [] l.rest)) l.values new result → Spells l.ranges l.problem l.fn.fields (numbers l.fn.fields (fields_from [] l.fn.text)) l.fn.values new result;
}

abbrev pub decreases-loop-fields : goal.decreases-loop-fields
decreases-loop-fields l = length l.fields
