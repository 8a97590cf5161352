use Rattle.std.proofs.Common.{rules, ◌≡◌, ◌<◌}
use Rattle.sp_rounds.proofs.RuleSteps.{checks}
use Rattle.sp_rounds.proofs.table.ClaimTable.load_once.Goals as goal

pub load-requires : goal.load-requires
load-requires c =
    let seat = c.claimer.inside.seat in
    let shared = c.self.inside.table.shared in
    let same : seat.table_id ≡ shared.table_id = cc in
    let some_word : 0 < shared.table_id.words = search rules in
    (same, some_word, checks shared.key shared.table_id.slots seat.id seat.me.0 seat.me.1)
