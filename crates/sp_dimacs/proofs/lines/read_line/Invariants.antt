use Rattle.std.proofs.Common.{◌≡◌, ℕ, ◌^◌, ◌-◌, ◌++◌, List}
use Rattle.std.specs.Io.KnownBytes.{Consumes}
use Rattle.sp_text.specs.Meaning.{HasNoLf}
use Rattle.sp_dimacs.proofs.lines.read_line.Given as goal

abbrev pub invariant-loop-kind : goal.invariant-loop-kind
invariant-loop-kind g l = (more : List ℕ) × Consumes (g.R.Read.left l.fn.reader) (g.R.Read.left l.reader) more × (l.fn.piece ++ more ≡ l.room ++ l.piece) × HasNoLf l.room

abbrev pub decreases-loop-kind : goal.decreases-loop-kind
decreases-loop-kind g l = 2 ^ 62 - g.R.Read.passed l.reader
