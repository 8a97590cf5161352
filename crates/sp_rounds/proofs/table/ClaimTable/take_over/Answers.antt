use Rattle.std.proofs.Common.{rules, ◌≡◌, ◌<◌}
use Rattle.sp_rounds.proofs.RuleSteps.{joins}
use Rattle.sp_rounds.proofs.table.ClaimTable.take_over.Goals as goal

pub join_seat-requires : goal.join_seat-requires
join_seat-requires c =
    let seat = c.claimer.inside.seat in
    let other = c.other.inside.seat in
    let shared = c.self.inside.table.shared in
    let first : seat.table_id ≡ shared.table_id = cc in
    let second : other.table_id ≡ shared.table_id = cc in
    let some_word : 0 < shared.table_id.words = search rules in
    (first, second, c.other.invariant, some_word, joins shared.key seat.id other.id seat.me.0 other.me.0)
