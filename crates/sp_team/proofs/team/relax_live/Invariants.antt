use Rattle.std.specs.Prelude.{All}
use Rattle.sp_word.specs.Word.{max_dist}
use Rattle.sp_offer.specs.Order.{lawful}
use Rattle.sp_offer.specs.Story.{known_table}
use Rattle.sp_team.specs.Later.{IsLater}
use Rattle.sp_team.specs.Requests.{IsRequest}
use Rattle.sp_team.specs.Marked.{WillBeTrue}
use Rattle.sp_team.proofs.team.relax_live.Given as goal

abbrev pub invariant-loop-entry : goal.invariant-loop-entry
invariant-loop-entry g l =
    let law = lawful g.row.P (g.L.Lawful.allows l.table.law) in
    let max = max_dist g.row.P in record {
      later : IsLater law l.initial.caller l.caller;
      requests : All (IsRequest law l.table.vertices) l.notes.requests.items;
      marks : All (WillBeTrue max l.graph (known_table l.caller.story) l.notes.requests.items) l.notes.marks.items;
    }
