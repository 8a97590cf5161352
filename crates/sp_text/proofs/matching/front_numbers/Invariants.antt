use Rattle.std.proofs.Common.{◌≡◌, ℕ, ◌+◌, ◌≤◌, List, ◌++◌, length, take, drop}
use Rattle.std.specs.List.{AllByRecursion}
use Rattle.sp_text.specs.Matching.{AreSpaced}
use Rattle.sp_text.proofs.matching.front_numbers.Given as goal

-- What so many bytes more spell by the fields that are left, all bytes up to there spell by all fields.
abbrev pub invariant-loop-place : goal.invariant-loop-place
invariant-loop-place l = record {
  read : length l.values ≡ l.place;
  within : l.end ≤ 32;
  plain : AllByRecursion (λ b. 32 ≤ b) (take l.end l.text);
  spaced : (k : ℕ) (ns : List ℕ) → AreSpaced l.ranges l.problem (drop l.place l.fields) (take k (drop l.end l.text)) ns → AreSpaced l.ranges l.problem l.fields (take (l.end + k) l.text) (l.values ++ ns);
}
