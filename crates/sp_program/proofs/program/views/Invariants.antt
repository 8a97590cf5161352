use Rattle.std.proofs.Common.{◌≡◌, map, string_bytes, take}
use Rattle.clap.specs.Walk.{texts}
use Rattle.sp_program.proofs.program.views.Given as goal

-- The words until here have their texts.
abbrev pub invariant-loop-word : goal.invariant-loop-word
invariant-loop-word l = texts l.views.items ≡ map string_bytes (take l.word-index l.words)
