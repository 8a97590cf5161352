use Rattle.std.proofs.Common.{◌≡◌, ℕ, ◌≤◌, ◌^◌, ◌++◌, List, length}
use Rattle.sp_text.specs.Text.{judge}
use Rattle.sp_text.specs.Collecting.{IsAfter}
use Rattle.sp_text.specs.Feeding.{IsBehind}
use Rattle.sp_text.proofs.items.Feeder+Collector+K.feed_items.Given as goal

abbrev pub invariant-loop-rest : goal.invariant-loop-rest
invariant-loop-rest g l = (front : List ℕ) × (l.piece ≡ front ++ l.rest)
    × ((text : List ℕ) → length (text ++ l.piece) ≤ 2 ^ 62 → IsBehind (judge g.K.Keep.format g.K.Keep.ranges) (λ c' lines. IsAfter g.K.Keep.format g.K.Keep.Kept lines c'.keep c'.problem c'.counts) text l.fn.self → IsBehind (judge g.K.Keep.format g.K.Keep.ranges) (λ c' lines. IsAfter g.K.Keep.format g.K.Keep.Kept lines c'.keep c'.problem c'.counts) (text ++ front) l.self)

abbrev pub decreases-loop-rest : goal.decreases-loop-rest
decreases-loop-rest g l = length l.rest
