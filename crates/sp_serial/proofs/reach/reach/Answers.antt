use Rattle.std.proofs.Common.{rules}
use Rattle.sp_serial.proofs.Touching.{all_reached}
use Rattle.sp_serial.proofs.reach.reach.Goals as goal

pub are_answers-requires : goal.are_answers-requires
are_answers-requires g c =
    let tracked = c.lower_from.new.table in
    let table = (c.in_ok-ended.ensures {u = tt}).table in
    let reached = all_reached tracked.reached.items tracked.words.items c.lower_from.ensures.kept in
    rw (c.deref.ensures.value, c.deref-2.ensures.value)
    (search rules, (record { layout = c.requires.clear.layout; room = c.requires.clear.room; vertices = c.requires.sources; asked = c.requires.asked; table = table }, reached))
