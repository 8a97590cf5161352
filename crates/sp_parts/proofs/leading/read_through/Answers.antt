use Rattle.std.proofs.Common.{ap}
use Rattle.sp_text.specs.Collecting.{SpelledBy}
use Rattle.sp_parts.specs.declared.progress.Position.{Position}
use Rattle.sp_parts.proofs.Standing.{goes_begun, goes_on, goes_wrong, stands_to_end, stands_to_failure}
use Rattle.sp_parts.proofs.leading.read_through.Goals as goal

pub loop-init : goal.loop-init
loop-init g c =
    let first = c.args.progress.now in
    (goes_begun g.R.Read g.O.Origin.text g.O.Origin.problem c.args.device.now first.reader first.came.bytes first.taken.bytes first.received c.requires.came c.requires.more c.requires.going, c.requires.held)

pub returns-in-Err-clause-read : goal.returns-in-Err-clause-read
returns-in-Err-clause-read g c = λ begun h.
    let first = c.args.progress.now in
    let was = c.loop.progress in
    let mid = c.receive_more-has_received.new.self in
    let now = c.take_next.new.self in
    let told = c.receive_more-has_received.ensures in
    goes_wrong (SpelledBy g.K.Keep.format g.K.Keep.Spelled) g.R.Read g.O.Origin.text g.O.Origin.problem c.args.device.now first.reader first.came.bytes first.taken.bytes c.loop.device c.receive_more-has_received.new.device was.reader mid.reader now.reader was.came.bytes mid.came.bytes was.taken.bytes mid.taken.bytes now.taken.bytes
    was.received mid.received c.in-Err.e begun c.loop.invariant.0 told.came told.reader (ap (λ (m : Position). m.bytes) told.taken) c.in-Err.ensures.taken h

pub loop-preserved-then-has_received : goal.loop-preserved-then-has_received
loop-preserved-then-has_received g c =
    let first = c.args.progress.now in
    let was = c.loop.progress in
    let mid = c.receive_more-has_received.new.self in
    let now = c.take_next.new.self in
    let told = c.receive_more-has_received.ensures in
    let taken = c.in-Ok.ensures in
    let goes = goes_on g.R.Read g.O.Origin.text g.O.Origin.problem c.args.device.now first.reader first.came.bytes first.taken.bytes c.loop.device c.receive_more-has_received.new.device was.reader mid.reader now.reader was.came.bytes mid.came.bytes now.came.bytes was.taken.bytes mid.taken.bytes now.taken.bytes
    was.received mid.received now.received c.in-Ok.has_taken c.loop.invariant.0 told.came told.reader (ap (λ (m : Position). m.bytes) told.taken) taken.taken (ap (λ (m : Position). m.bytes) taken.came) taken.received in
    (goes, taken.held)

pub returns-in-Over-clause-read : goal.returns-in-Over-clause-read
returns-in-Over-clause-read g c = λ begun h.
    let first = c.args.progress.now in
    let was = c.loop.progress in
    let mid = c.receive_more-has_received.new.self in
    let now = c.take_next.new.self in
    let told = c.receive_more-has_received.ensures in
    let taken = c.in-Ok.ensures in
    let goes = goes_on g.R.Read g.O.Origin.text g.O.Origin.problem c.args.device.now first.reader first.came.bytes first.taken.bytes c.loop.device c.receive_more-has_received.new.device was.reader mid.reader now.reader was.came.bytes mid.came.bytes now.came.bytes was.taken.bytes mid.taken.bytes now.taken.bytes
    was.received mid.received now.received c.in-Ok.has_taken c.loop.invariant.0 told.came told.reader (ap (λ (m : Position). m.bytes) told.taken) taken.taken (ap (λ (m : Position). m.bytes) taken.came) taken.received in
    stands_to_end (SpelledBy g.K.Keep.format g.K.Keep.Spelled) g.R.Read g.O.Origin.text g.O.Origin.problem begun c.receive_more-has_received.new.device now.reader c.finish.new.self now.came.bytes now.taken.bytes c.finish.result (goes.stands begun h) c.if-progress.true (rw c.in-Over.is at goes.answer) c.finish.ensures.finished

pub returns-in-Failed-clause-read : goal.returns-in-Failed-clause-read
returns-in-Failed-clause-read g c = λ begun h.
    let first = c.args.progress.now in
    let was = c.loop.progress in
    let mid = c.receive_more-has_received.new.self in
    let now = c.take_next.new.self in
    let told = c.receive_more-has_received.ensures in
    let taken = c.in-Ok.ensures in
    let goes = goes_on g.R.Read g.O.Origin.text g.O.Origin.problem c.args.device.now first.reader first.came.bytes first.taken.bytes c.loop.device c.receive_more-has_received.new.device was.reader mid.reader now.reader was.came.bytes mid.came.bytes now.came.bytes was.taken.bytes mid.taken.bytes now.taken.bytes
    was.received mid.received now.received c.in-Ok.has_taken c.loop.invariant.0 told.came told.reader (ap (λ (m : Position). m.bytes) told.taken) taken.taken (ap (λ (m : Position). m.bytes) taken.came) taken.received in
    stands_to_failure (SpelledBy g.K.Keep.format g.K.Keep.Spelled) g.R.Read g.O.Origin.text g.O.Origin.problem begun c.receive_more-has_received.new.device now.reader c.fail.new.self now.came.bytes now.taken.bytes c.fail.result (goes.stands begun h) c.if-progress.true (rw c.in-Failed.is at goes.answer) c.fail.ensures.failed

pub loop-preserved : goal.loop-preserved
loop-preserved g c =
    let first = c.args.progress.now in
    let was = c.loop.progress in
    let mid = c.receive_more-has_received.new.self in
    let now = c.take_next.new.self in
    let told = c.receive_more-has_received.ensures in
    let taken = c.in-Ok.ensures in
    let goes = goes_on g.R.Read g.O.Origin.text g.O.Origin.problem c.args.device.now first.reader first.came.bytes first.taken.bytes c.loop.device c.receive_more-has_received.new.device was.reader mid.reader now.reader was.came.bytes mid.came.bytes now.came.bytes was.taken.bytes mid.taken.bytes now.taken.bytes
    was.received mid.received now.received c.in-Ok.has_taken c.loop.invariant.0 told.came told.reader (ap (λ (m : Position). m.bytes) told.taken) taken.taken (ap (λ (m : Position). m.bytes) taken.came) taken.received in
    (goes, taken.held)
