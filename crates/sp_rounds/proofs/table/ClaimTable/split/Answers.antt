use Rattle.std.proofs.Common.{rules, ◌≡◌, ◌<◌}
use Rattle.sp_rounds.proofs.RuleSteps.{splits}
use Rattle.sp_rounds.proofs.table.ClaimTable.split.Goals as goal

pub split_seat-other-requires : goal.split_seat-other-requires
split_seat-other-requires c =
    let seat = c.claimer.inside.seat in
    let shared = c.self.inside.table.shared in
    let same : seat.table_id ≡ shared.table_id = cc in
    let some_word : 0 < shared.table_id.words = search rules in
    (same, some_word, splits shared.key seat.id seat.me.0)
