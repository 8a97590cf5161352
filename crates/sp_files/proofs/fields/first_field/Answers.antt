use Rattle.std.proofs.Common.{arith}
use Rattle.sp_files.proofs.Parts.{first_part, one_part}
use Rattle.sp_files.proofs.fields.first_field.Goals as goal

pub returns-then-byte-eq32 : goal.returns-then-byte-eq32
returns-then-byte-eq32 c =
    rw (c.split_at-then-byte-eq32.ensures.back, c.split_at.ensures.back, c.split_at.ensures.front)
    (first_part c.loop-end.end c.args.text.now c.loop-end-test.true c.loop-end.invariant c.if-byte-eq32.true)

pub returns : goal.returns
returns c = one_part c.args.text.now (λ k h. c.loop-end.invariant k (omega arith))
