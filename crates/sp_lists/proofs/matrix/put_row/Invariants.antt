use Rattle.std.proofs.Common.{◌≡◌, ◌<◌, ◌+◌, ℕ, Some}
use Rattle.std.specs.Prelude.{slice_get, slice_index}
use Rattle.sp_answer.specs.declared.pair.PairAnswer.{PairAnswer}
use Rattle.sp_answer.specs.Pair.{answer_of}
use Rattle.sp_lists.specs.Matrix.{IsDistance, KeepsBut}
use Rattle.sp_lists.proofs.matrix.put_row.Given as goal

abbrev pub invariant-loop-place : goal.invariant-loop-place
invariant-loop-place l = record {
  row : (j : ℕ) (told : PairAnswer) → j < l.place → slice_get l.answers j ≡ Some told → IsDistance (answer_of told) (slice_index l.dist (l.low + j));
  others : KeepsBut l.low l.place l.fn.dist l.dist;
}
