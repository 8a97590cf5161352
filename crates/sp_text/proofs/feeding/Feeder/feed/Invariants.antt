use Rattle.std.proofs.Common.{◌≡◌, ℕ, ◌≤◌, ◌^◌, ◌++◌, List, length}
use Rattle.sp_text.specs.Feeding.{IsBehind}
use Rattle.sp_text.proofs.feeding.Feeder.feed.Given as goal

abbrev pub invariant-loop-rest : goal.invariant-loop-rest
invariant-loop-rest g l = (front : List ℕ) × (l.piece ≡ front ++ l.rest)
    × ((text : List ℕ) → length (text ++ l.piece) ≤ 2 ^ 62 → IsBehind g.T.LineTaker.rules g.T.LineTaker.After text l.fn.self → IsBehind g.T.LineTaker.rules g.T.LineTaker.After (text ++ front) l.self)

abbrev pub decreases-loop-rest : goal.decreases-loop-rest
decreases-loop-rest g l = length l.rest
