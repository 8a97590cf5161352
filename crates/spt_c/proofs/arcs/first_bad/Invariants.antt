use Rattle.std.proofs.Common.{ℕ, ◌≡◌, ◌<◌, Some}
use Rattle.std.specs.Prelude.{slice_get}
use Rattle.spt_c.specs.declared.arcs.SptArc.{SptArc}
use Rattle.spt_c.specs.Asked.{IsArcOf}
use Rattle.spt_c.proofs.arcs.first_bad.Given as goal

abbrev pub invariant-loop-place : goal.invariant-loop-place
invariant-loop-place l = (k : ℕ) (a : SptArc) → k < l.place → slice_get l.arcs k ≡ Some a → IsArcOf l.n a
