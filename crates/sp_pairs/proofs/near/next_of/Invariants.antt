use Rattle.std.proofs.Common.{◌≡◌, take}
use Rattle.std.specs.Prelude.{All, IfSome, Contains}
use Rattle.sp_pairs.specs.Near.{IsFirstArc, ComesNoLater}
use Rattle.sp_pairs.proofs.near.next_of.Given as goal

abbrev pub invariant-loop-arc : goal.invariant-loop-arc
invariant-loop-arc g l =
    (l.room ≡ l.initial.room)
    × IfSome l.next (λ a. Contains l.row a × IsFirstArc l.room l.to l.dist a)
    × All (λ a. IsFirstArc l.room l.to l.dist a → ComesNoLater l.next a.head) (take l.arc-index l.row)
