use Rattle.std.proofs.Common.{◌++◌, ◌∙◌, [], arith, inl}
use Rattle.std.proofs.lemmas.Result.{err_from_is_err_and}
use Rattle.sp_text.specs.Text.{judge}
use Rattle.sp_text.specs.Lines.{ended}
use Rattle.sp_text.specs.Collecting.{SpelledBy}
use Rattle.sp_text.specs.Collectors.{HasTakenLines}
use Rattle.sp_text.proofs.Behind.{refused_earlier}
use Rattle.sp_parts.proofs.Standing.{more_come, read_to_end, read_to_failure}
use Rattle.sp_parts.proofs.groups.read_alone.Goals as goal

pub returns-in_err-feed_items-clause-read : goal.returns-in_err-feed_items-clause-read
returns-in_err-feed_items-clause-read g c =
    let p = err_from_is_err_and c.from_residual.result c.from_residual.ensures.1 in
    let before = c.loop-group.invariant in
    let text = before.0 in
    let piece = c.receive-received.new.self in
    let came = more_come g.R.Read (g.R.Read.left c.args.device.now) c.loop-group.device c.receive-received.new.device text piece c.receive-received.result before.1 c.receive-received.ensures in
    let told = (rw c.bytes.ensures at c.in_err-feed_items.ensures) text came.short before.2 in
    rw (p.1, p.2) (text ++ piece, came.bytes_are, inl (refused_earlier (judge g.K.Keep.format g.K.Keep.ranges) [] (ended text) (text ++ piece) c.in_err-feed_items.field-0.0 (omega arith) told.1))

pub returns-in-Over-clause-read : goal.returns-in-Over-clause-read
returns-in-Over-clause-read g c =
    let before = c.loop-group.invariant in
    let text = before.0 in
    let piece = c.receive-received.new.self in
    let came = more_come g.R.Read (g.R.Read.left c.args.device.now) c.loop-group.device c.receive-received.new.device text piece c.receive-received.result before.1 c.receive-received.ensures in
    let behind = (rw c.bytes.ensures at c.in_ok-feed_items.ensures) text came.short before.2 in
    read_to_end (judge g.K.Keep.format g.K.Keep.ranges) (HasTakenLines {keeper = g.K.Keep}) (SpelledBy g.K.Keep.format g.K.Keep.Spelled) g.R.Read c.args.device.now c.receive-received.new.device (text ++ piece)
    c.feed_items.new.self c.finish.new.self c.finish.result came behind (rw c.in-Over.is at c.receive-received.ensures.end) c.finish.ensures.finished

pub returns-in-Failed-clause-read : goal.returns-in-Failed-clause-read
returns-in-Failed-clause-read g c =
    let before = c.loop-group.invariant in
    let text = before.0 in
    let piece = c.receive-received.new.self in
    let came = more_come g.R.Read (g.R.Read.left c.args.device.now) c.loop-group.device c.receive-received.new.device text piece c.receive-received.result before.1 c.receive-received.ensures in
    let behind = (rw c.bytes.ensures at c.in_ok-feed_items.ensures) text came.short before.2 in
    read_to_failure (judge g.K.Keep.format g.K.Keep.ranges) (HasTakenLines {keeper = g.K.Keep}) (SpelledBy g.K.Keep.format g.K.Keep.Spelled) g.R.Read c.args.device.now c.receive-received.new.device (text ++ piece)
    c.feed_items.new.self c.fail.new.self c.fail.result came behind (rw c.in-Failed.is at c.receive-received.ensures.end) c.fail.ensures.failed

pub loop-group-preserved-then-came-plan : goal.loop-group-preserved-then-came-plan
loop-group-preserved-then-came-plan g c =
    let before = c.loop-group.invariant in
    let text = before.0 in
    let piece = c.receive-received.new.self in
    let came = more_come g.R.Read (g.R.Read.left c.args.device.now) c.loop-group.device c.receive-received.new.device text piece c.receive-received.result before.1 c.receive-received.ensures in
    let behind = (rw c.bytes.ensures at c.in_ok-feed_items.ensures) text came.short before.2 in
    (text ++ piece, came, behind, c.receive-received.ensures.lasting ∙ before.3)

pub returns-in-Ok-clause-read : goal.returns-in-Ok-clause-read
returns-in-Ok-clause-read g c =
    let before = c.loop-group.invariant in
    let text = before.0 in
    let piece = c.receive-received.new.self in
    let came = more_come g.R.Read (g.R.Read.left c.args.device.now) c.loop-group.device c.receive-received.new.device text piece c.receive-received.result before.1 c.receive-received.ensures in
    let behind = (rw c.bytes.ensures at c.in_ok-feed_items.ensures) text came.short before.2 in
    c.in-Ok.ensures.read c.args.device.now (text ++ piece) came behind

pub loop-group-preserved : goal.loop-group-preserved
loop-group-preserved g c =
    let before = c.loop-group.invariant in
    let text = before.0 in
    let piece = c.receive-received.new.self in
    let came = more_come g.R.Read (g.R.Read.left c.args.device.now) c.loop-group.device c.receive-received.new.device text piece c.receive-received.result before.1 c.receive-received.ensures in
    let behind = (rw c.bytes.ensures at c.in_ok-feed_items.ensures) text came.short before.2 in
    let back = c.in-Err.ensures.back c.args.device.now (text ++ piece) came behind in
    (back.0, back.1, back.2, c.in-Err.ensures.further.0 ∙ (c.receive-received.ensures.lasting ∙ before.3))
