use Rattle.std.proofs.Common.{◌≡◌, drop, vec_len}
use Rattle.sp_machine.specs.Programme.{named_words}
use Rattle.sp_machine.proofs.machine.name_words.Given as goal

abbrev pub invariant-loop-vertex : goal.invariant-loop-vertex
invariant-loop-vertex g l = record {
  length : vec_len l.words ≡ vec_len l.initial.words;
  rest : named_words l.words.items (drop l.vertex-index l.named) ≡ named_words l.initial.words.items l.named;
}
