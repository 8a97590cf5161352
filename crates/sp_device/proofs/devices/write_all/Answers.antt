use Rattle.std.proofs.Common.{◌∙◌, ◌++◌, ◌+◌, ◌≡◌, length, take, length-append, arith}
use Rattle.std.proofs.lemmas.List.{length-take-le}
use Rattle.std.proofs.KnownBytes.{Appends-trans}
use Rattle.sp_device.proofs.TextSteps.{split_on}
use Rattle.sp_device.proofs.devices.write_all.Goals as goal

pub loop-rest-preserved : goal.loop-rest-preserved
loop-rest-preserved g c =
    let before = c.loop-rest.invariant in
    let front = before.0 in
    let rest = c.loop-rest.rest.now in
    let n = c.in-Ok.n in
    let took = c.in-Ok.ensures in
    let longer : g.W.Write.passed c.write.new.self ≡ g.W.Write.passed c.args.out.now + length (front ++ take n rest) = omega (arith, took.passed, before.3, length-append front (take n rest), length-take-le n rest took.within) in (
      front ++ take n rest,
      split_on c.args.bytes.now front rest c.split_at.result.1.now n before.1 c.split_at.ensures.back,
      Appends-trans (g.W.Write.written c.args.out.now) (g.W.Write.written c.loop-rest.out) (g.W.Write.written c.write.new.self) front (take n rest) before.2 took.bytes,
      longer,
      λ _. took.limit,
      took.lasting ∙ before.5,
    )
