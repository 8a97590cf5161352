use Rattle.std.proofs.Common.{◌≡◌, length, arith}
use Rattle.sp_rounds.proofs.RingSteps.{new_ring}
use Rattle.sp_rounds.proofs.ring.BucketRing.new.Goals as goal

pub invariant_of-result : goal.invariant_of-result
invariant_of-result c =
    let ss = c.in_ok-slots.slots.items in
    let len : length ss ≡ c.args.len = omega (arith, c.in_ok-slots.ensures.len) in
    (new_ring c.args.delta c.args.len ss c.requires.delta len c.requires.some c.requires.short c.in_ok-slots.ensures.empty).0

pub returns : goal.returns
returns c =
    let ss = c.in_ok-slots.slots.items in
    let len : length ss ≡ c.args.len = omega (arith, c.in_ok-slots.ensures.len) in
    (new_ring c.args.delta c.args.len ss c.requires.delta len c.requires.some c.requires.short c.in_ok-slots.ensures.empty).1
