use Rattle.std.specs.List.{All}
use Rattle.sp_parts.specs.Parts.{IsPart}
use Rattle.sp_parts.proofs.parts.read_parts.Given as goal

abbrev pub invariant-loop : goal.invariant-loop
invariant-loop g l = All (IsPart l.reader l.text) l.parts.items
