use Rattle.std.proofs.Common.{rules, ◌≡◌, ◌<◌, arith}
use Rattle.sp_rounds.proofs.RuleSteps.{claims}
use Rattle.sp_rounds.proofs.table.ClaimTable.claim.Goals as goal

pub fetch_max-found-requires : goal.fetch_max-found-requires
fetch_max-found-requires c =
    let seat = c.claimer.inside.seat in
    let shared = c.self.inside.table.shared in
    let same : seat.table_id ≡ shared.table_id = cc in
    let inside : c.args.slot < shared.table_id.words = search rules in (
      same,
      inside,
      claims shared.key shared.table_id.slots seat.id c.args.slot c.args.round seat.me.0 seat.me.1 (omega (arith, c.self.invariant)),
    )
