use Rattle.std.proofs.Common.{◌∙◌, ap}
use Rattle.sp_text.specs.Collecting.{SpelledBy}
use Rattle.sp_parts.specs.declared.progress.Position.{Position}
use Rattle.sp_parts.proofs.Standing.{next_refused, stands_next, stands_whole}
use Rattle.sp_parts.proofs.leading.take_rest.Goals as goal

pub loop-has_taken-init : goal.loop-has_taken-init
loop-has_taken-init g c = (λ begun h. h, c.requires)

pub returns-in-Err-clause-refused : goal.returns-in-Err-clause-refused
returns-in-Err-clause-refused g c = λ begun h.
    let was = c.loop-has_taken.progress in
    let now = c.take_front.new.self in
    next_refused (SpelledBy g.K.Keep.format g.K.Keep.Spelled) g.R.Read g.O.Origin.text g.O.Origin.problem begun c.args.device.now was.reader now.reader was.came.bytes was.taken.bytes now.taken.bytes c.in-Err.e (c.loop-has_taken.invariant.0 begun h) c.in-Err.ensures.taken

pub returns-in-loop-has_taken-clause-taken : goal.returns-in-loop-has_taken-clause-taken
returns-in-loop-has_taken-clause-taken g c = λ begun h.
    let was = c.loop-has_taken.progress in
    let now = c.take_front.new.self in
    let taken = c.in-Ok.ensures in
    let stands = stands_next g.R.Read g.O.Origin.text g.O.Origin.problem begun c.args.device.now was.reader now.reader was.came.bytes was.taken.bytes now.taken.bytes c.in-Ok.has_taken (c.loop-has_taken.invariant.0 begun h) taken.taken in
    let all = rw (taken.none c.if-has_taken.false) at taken.held in
    stands_whole g.R.Read g.O.Origin.text g.O.Origin.problem begun c.args.device.now now.reader was.came.bytes now.taken.bytes stands (all ∙ ap (λ (m : Position). m.bytes) taken.came)

pub loop-has_taken-preserved : goal.loop-has_taken-preserved
loop-has_taken-preserved g c =
    let was = c.loop-has_taken.progress in
    let now = c.take_front.new.self in
    let taken = c.in-Ok.ensures in (
      λ begun h.
          rw (ap (λ (m : Position). m.bytes) taken.came) (stands_next g.R.Read g.O.Origin.text g.O.Origin.problem begun c.args.device.now was.reader now.reader was.came.bytes was.taken.bytes now.taken.bytes c.in-Ok.has_taken (c.loop-has_taken.invariant.0 begun h) taken.taken),
      taken.held,
    )
