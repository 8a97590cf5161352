use Rattle.std.proofs.Common.{◌≡◌, length, subst, arith}
use Rattle.sp_answer.specs.Rooted.{AreFound}
use Rattle.sp_answer.proofs.RootSteps.{are_roots}
use Rattle.sp_answer.proofs.rooting.fill_roots.Goals as goal

pub returns : goal.returns
returns g c =
    let words = c.args.words.now in
    let roots = c.loop-place.roots in
    let inv = c.loop-place.invariant in
    let all : c.loop-place.place ≡ length words = omega (arith, c.loop-place-test.false, c.loop-place.auto.place-end) in
    are_roots words roots inv.size inv.known (subst (AreFound words roots) all inv.found)
