use Rattle.std.proofs.Common.{◌≡◌, ℕ, ◌≤◌, ◌^◌, ◌++◌, List, length, take, Some}
use Rattle.sp_text.specs.Lines.{ended}
use Rattle.sp_text.specs.Text.{judge, problem_of}
use Rattle.sp_text.specs.Collecting.{IsAfter}
use Rattle.sp_text.specs.Feeding.{IsBehind}
use Rattle.std.specs.List.{All}
use Rattle.sp_parts.specs.Parts.{IsPartOf}
use Rattle.sp_parts.proofs.taking.take_parts.Given as goal

abbrev pub invariant-loop-part : goal.invariant-loop-part
invariant-loop-part g l = (l.done ≤ length l.text) × ((front ps : List ℕ) → length (front ++ l.text) ≤ 2 ^ 62 → problem_of g.K.Keep.format (ended front) ≡ Some ps → All (IsPartOf g.K.Keep.format g.K.Keep.ranges g.K.Keep.Kept ps l.text) l.parts
    → IsBehind (judge g.K.Keep.format g.K.Keep.ranges) (λ c lines. IsAfter g.K.Keep.format g.K.Keep.Kept lines c.keep c.problem c.counts) front l.fn.reader
    → IsBehind (judge g.K.Keep.format g.K.Keep.ranges) (λ c lines. IsAfter g.K.Keep.format g.K.Keep.Kept lines c.keep c.problem c.counts) (front ++ take l.done l.text) l.reader)
