use Rattle.std.proofs.Common.{◌≡◌, ◌-◌, ◌++◌, length, get_or, take}
use Rattle.sp_packed.specs.Ends.{AreRising}
use Rattle.sp_packed.proofs.ends.wrong_end.Given as goal

abbrev pub invariant-loop-k : goal.invariant-loop-k
invariant-loop-k l =
    AreRising l.m (l.ends ++ take l.k l.numbers)
    × (l.last ≡ get_or (l.ends ++ take l.k l.numbers) (length (l.ends ++ take l.k l.numbers) - 1) 0)
