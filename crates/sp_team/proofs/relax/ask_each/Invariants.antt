use Rattle.std.specs.Prelude.{All, IsTrue, take}
use Rattle.sp_word.specs.Word.{max_dist}
use Rattle.sp_offer.specs.Order.{lawful}
use Rattle.sp_offer.specs.Story.{known_table}
use Rattle.sp_team.specs.Later.{IsLater}
use Rattle.sp_team.specs.Requests.{IsRequest}
use Rattle.sp_team.specs.Marked.{WillBeMet, RowWillBeMet}
use Rattle.sp_team.proofs.relax.ask_each.Given as goal

abbrev pub invariant-loop-arc : goal.invariant-loop-arc
invariant-loop-arc g l =
    let law = lawful g.row.P (g.L.Lawful.allows l.table.law) in
    let max = max_dist g.row.P in
    let known = known_table l.caller.story in record {
      later : IsLater law l.initial.caller l.caller;
      requests : All (IsRequest law l.table.vertices) l.requests.items;
      before : All (WillBeMet known l.requests.items) l.initial.requests.items;
      row : IsTrue l.whole → RowWillBeMet max known l.requests.items l.dist (take l.arc-index l.row);
    }
