use Rattle.std.proofs.Common.{◌≡◌, ◌+◌, ℕ, Ok, take, sym, subst, arith}
use Rattle.std.specs.Prelude.{slice_set}
use Rattle.std.specs.Io.KnownBytes.{Consumes}
use Rattle.sp_device.specs.Failing.{FailsBy}
use Rattle.sp_device.specs.declared.devices.Failed.{Failed}
use Rattle.sp_device.specs.Peeked.{joined, passed_behind}
use Rattle.sp_device.proofs.Peeking.{passes, may_pass}
use Rattle.sp_device.proofs.peeked.PeekedRead.read.Goals as goal

pub returns-in-Some-clause-bytes : goal.returns-in-Some-clause-bytes
returns-in-Some-clause-bytes g c =
    let left = g.D.Read.left c.args.self.now.device in
    subst (λ f. Consumes (joined f left) left (take 1 (slice_set c.args.buf.now 0 c.in-Some.byte))) (sym c.in-Some.is) (passes c.in-Some.byte c.args.buf.now left c.requires)

pub returns-in-Some-clause-passed : goal.returns-in-Some-clause-passed
returns-in-Some-clause-passed g c =
    let first = c.args.self.now.waits c.in-Some.byte c.in-Some.is in
    let passed = g.D.Read.passed c.args.self.now.device in
    subst (λ f. passed ≡ passed_behind f passed + 1) (sym c.in-Some.is) (omega (arith, first.some))

pub returns-in-Some-clause-limit : goal.returns-in-Some-clause-limit
returns-in-Some-clause-limit g c = (c.args.self.now.waits c.in-Some.byte c.in-Some.is).limit

pub returns-in-Some-clause-going : goal.returns-in-Some-clause-going
returns-in-Some-clause-going g c =
    let first = c.args.self.now.waits c.in-Some.byte c.in-Some.is in
    (first.going, first.going)

pub returns-in-Some-clause-fails : goal.returns-in-Some-clause-fails
returns-in-Some-clause-fails g c =
    let first = c.args.self.now.waits c.in-Some.byte c.in-Some.is in
    let passed = g.D.Read.passed c.args.self.now.device in
    let failing = g.D.Read.failing c.args.self.now.device in
    subst (λ f. FailsBy {T = ℕ} {E = Failed} failing (passed_behind f passed) (Ok 1)) (sym c.in-Some.is) (may_pass failing passed first.some first.fails)
