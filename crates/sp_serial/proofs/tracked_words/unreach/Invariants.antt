use Rattle.std.proofs.Common.{◌≡◌, length}
use Rattle.sp_serial.specs.TrackedWords.{AreTouched}
use Rattle.sp_serial.proofs.tracked_words.unreach.Given as goal

abbrev pub invariant-loop-vertex : goal.invariant-loop-vertex
invariant-loop-vertex g l = (length l.words.items ≡ length l.initial.words.items) × AreTouched l.vertex-index l.reached l.words.items
