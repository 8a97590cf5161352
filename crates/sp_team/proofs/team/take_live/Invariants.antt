use Rattle.std.specs.Prelude.{◌≡◌, ◌≤◌, All, take, vec_len}
use Rattle.sp_offer.specs.Order.{lawful}
use Rattle.sp_team.specs.Later.{IsLater}
use Rattle.sp_team.specs.Live.{IsLive}
use Rattle.sp_team.proofs.team.take_live.Given as goal

abbrev pub invariant-loop-place : goal.invariant-loop-place
invariant-loop-place g l =
    let law = lawful g.row.P (g.L.Lawful.allows l.table.law) in record {
      later : IsLater law l.initial.caller l.caller;
      size : vec_len l.live ≡ vec_len l.initial.live;
      kept : l.kept ≤ l.place;
      live : All (IsLive law l.graph) (take l.kept l.live.items);
    }
