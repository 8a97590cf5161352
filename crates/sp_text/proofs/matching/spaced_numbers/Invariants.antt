use Rattle.std.proofs.Common.{◌≡◌, ℕ, List, ◌++◌, length, drop}
use Rattle.sp_text.specs.Matching.{AreSpaced}
use Rattle.sp_text.proofs.matching.spaced_numbers.Given as goal

-- What the fields that are left show, the whole line shows.
abbrev pub invariant-loop-place : goal.invariant-loop-place
invariant-loop-place l = record {
  read : length l.values ≡ l.place;
  spaced : (ns : List ℕ) → AreSpaced l.ranges l.problem (drop l.place l.fields) l.rest ns → AreSpaced l.ranges l.problem l.fields l.fn.text (l.values ++ ns);
}
