use Rattle.sp_word.specs.Word.{max_dist}
use Rattle.sp_offer.specs.Order.{lawful}
use Rattle.sp_team.specs.Later.{IsLater}
use Rattle.sp_team.specs.Marked.{AllTrue}
use Rattle.sp_team.proofs.team.work.Given as goal

abbrev pub invariant-loop : goal.invariant-loop
invariant-loop g l = record {
  later : IsLater (lawful g.row.P (g.L.Lawful.allows l.table.law)) l.initial.caller l.caller;
  marks : AllTrue (max_dist g.row.P) l.graph l.caller.story l.batch.notes.marks.items;
}
