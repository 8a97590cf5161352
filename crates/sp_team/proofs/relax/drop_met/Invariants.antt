use Rattle.std.specs.Prelude.{◌≡◌, ◌≤◌, All, take, length}
use Rattle.sp_offer.specs.Order.{lawful}
use Rattle.sp_offer.specs.Story.{known_table}
use Rattle.sp_team.specs.Later.{IsLater}
use Rattle.sp_team.specs.Requests.{IsRequest}
use Rattle.sp_team.specs.Marked.{WillBeMet}
use Rattle.sp_team.proofs.Marks.{AreSameFrom}
use Rattle.sp_team.proofs.relax.drop_met.Given as goal

abbrev pub invariant-loop-place : goal.invariant-loop-place
invariant-loop-place g l =
    let law = lawful g.row.P (g.L.Lawful.allows l.table.law) in
    let first = l.initial.requests.items in
    let items = l.requests.items in record {
      later : IsLater law l.initial.caller l.caller;
      requests : All (IsRequest law l.table.vertices) items;
      length : length items ≡ length first;
      kept : l.kept ≤ l.place;
      rest : AreSameFrom l.place items first;
      met : All (WillBeMet (known_table l.caller.story) (take l.kept items)) (take l.place first);
    }
