use Rattle.std.proofs.Common.{rules}
use Rattle.sp_run.proofs.run.RunFromAny.turns.Goals as goal

pub judge-requires-after_bounds : goal.judge-requires-after_bounds
judge-requires-after_bounds g c κs within = rw (c.as_slice-in-loop.ensures.value, c.as_slice-in-loop-2.ensures.value) (search rules, (search rules, (c.in_ok-words.ensures.copy, (c.in_ok-words.ensures.marks, c.requires.asked))))
