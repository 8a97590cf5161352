use Rattle.std.proofs.Common.{◌≤◌, ◌^◌, ◌++◌, [], length, take, arith, inl, length-append}
use Rattle.std.proofs.lemmas.Result.{err_from_is_err_and}
use Rattle.std.proofs.lemmas.List.{length-take-le}
use Rattle.std.proofs.KnownBytes.{Consumes-trans}
use Rattle.sp_text.specs.Lines.{ended}
use Rattle.sp_text.specs.Text.{judge}
use Rattle.sp_text.proofs.Behind.{refused_earlier}
use Rattle.sp_text.proofs.items.read_on.Goals as goal

pub returns-in_err-feed_items-in-Ok-clause-read : goal.returns-in_err-feed_items-in-Ok-clause-read
returns-in_err-feed_items-in-Ok-clause-read g c =
    let before = c.loop-feeder.invariant in
    let front = before.0 in
    let reads = c.in-Ok.ensures in
    let piece = take c.in-Ok.n c.read.new.buf in
    let short : length (front ++ piece) ≤ 2 ^ 62 = omega (arith, length-append front piece, length-take-le c.in-Ok.n c.read.new.buf reads.within, before.2, reads.passed, reads.limit) in
    let told = c.in_err-feed_items-in-Ok.ensures front short before.4 in
    let p = err_from_is_err_and c.from_residual.result c.from_residual.ensures.1 in
    rw (p.1, p.2) (
      front ++ piece,
      Consumes-trans (g.R.Read.left c.args.reader.now) (g.R.Read.left c.loop-feeder.reader) (g.R.Read.left c.read.new.self) front piece before.1 reads.bytes,
      inl (refused_earlier (judge g.K.Keep.format g.K.Keep.ranges) [] (ended front) (front ++ piece) c.in_err-feed_items-in-Ok.field-0.0 (omega arith) told.1),
    )
