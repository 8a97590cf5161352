use Rattle.std.proofs.Common.{◌≡◌, length}
use Rattle.sp_answer.specs.Rooted.{AreKnown, AreFound}
use Rattle.sp_answer.proofs.rooting.fill_roots.Given as goal

abbrev pub invariant-loop-place : goal.invariant-loop-place
invariant-loop-place g l = record {
  size : length l.roots ≡ length l.words;
  known : AreKnown l.words l.roots;
  found : AreFound l.words l.roots l.place;
}
