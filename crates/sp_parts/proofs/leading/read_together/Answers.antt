use Rattle.std.proofs.Common.{[], sym}
use Rattle.sp_parts.proofs.Standing.{none_come, stands_begun}
use Rattle.sp_parts.proofs.leading.read_together.Goals as goal

pub read_beside-requires-clause-came : goal.read_beside-requires-clause-came
read_beside-requires-clause-came g c κs within = ([], rw c.requires.text (none_come g.R.Read c.args.device.now), sym c.new-progress.ensures.came)

pub returns-in-Some-clause-read : goal.returns-in-Some-clause-read
returns-in-Some-clause-read g c = λ begun alone come behind.
    let found = c.requires.problem in
    let progress = c.new-progress.result in
    let is = c.new-progress.ensures in
    let stands = stands_begun g.R.Read g.O.Origin.text g.O.Origin.problem begun c.args.device.now progress.reader alone found.0 progress.came.bytes progress.taken.bytes come (rw is.reader behind) c.requires.text found.1 (rw is.reader found.2) is.came is.taken in
    c.in-Some.ensures.read begun stands

pub returns-in-Ok-take_rest-clause-back : goal.returns-in-Ok-take_rest-clause-back
returns-in-Ok-take_rest-clause-back g c = λ begun alone come behind.
    let found = c.requires.problem in
    let progress = c.new-progress.result in
    let is = c.new-progress.ensures in
    let stands = stands_begun g.R.Read g.O.Origin.text g.O.Origin.problem begun c.args.device.now progress.reader alone found.0 progress.came.bytes progress.taken.bytes come (rw is.reader behind) c.requires.text found.1 (rw is.reader found.2) is.came is.taken in
    rw c.into_reader.ensures (c.in-Ok-take_rest.ensures.taken begun (c.in-None.ensures.left.0.stands begun stands))

pub returns-clause-read : goal.returns-clause-read
returns-clause-read g c = λ begun alone come behind.
    let found = c.requires.problem in
    let progress = c.new-progress.result in
    let is = c.new-progress.ensures in
    let stands = stands_begun g.R.Read g.O.Origin.text g.O.Origin.problem begun c.args.device.now progress.reader alone found.0 progress.came.bytes progress.taken.bytes come (rw is.reader behind) c.requires.text found.1 (rw is.reader found.2) is.came is.taken in
    c.in-Err.ensures.refused begun (c.in-None.ensures.left.0.stands begun stands)
