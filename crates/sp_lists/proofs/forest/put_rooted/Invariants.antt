use Rattle.std.proofs.Common.{◌≡◌, ◌-◌, ℕ}
use Rattle.std.specs.Prelude.{slice_index}
use Rattle.sp_paths.specs.Paths.{IsVertex, word_at}
use Rattle.sp_answer.specs.Rooted.{root_at}
use Rattle.sp_lists.specs.Blocks.{slices, AreCells}
use Rattle.sp_lists.specs.ForestQuestion.{lists, KeepsListsFrom}
use Rattle.sp_lists.proofs.forest.put_rooted.Given as goal

abbrev pub invariant-loop-place : goal.invariant-loop-place
invariant-loop-place g l = record {
  cells : AreCells 0 l.place (word_at l.words) (slices l.dist l.pred);
  roots : (v : ℕ) → IsVertex l.place v → slice_index l.root (v - 1) ≡ root_at l.roots v;
  others : KeepsListsFrom l.place (lists l.fn.dist l.fn.pred l.fn.root) (lists l.dist l.pred l.root);
}
