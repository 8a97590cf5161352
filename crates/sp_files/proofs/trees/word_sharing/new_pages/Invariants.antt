use Rattle.std.proofs.Common.{◌≡◌, [], vec_len}
use Rattle.std.specs.List.{concat}
use Rattle.sp_files.proofs.trees.word_sharing.new_pages.Given as goal

abbrev pub invariant-loop : goal.invariant-loop
invariant-loop l = record {
  size : vec_len l.pages ≡ l.counter;
  empty : concat l.pages.items ≡ [];
}
