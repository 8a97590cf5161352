use Rattle.std.proofs.Common.{◌≤◌, ◌<◌}
use Rattle.sp_word.specs.Word.{word_of}
use Rattle.sp_offer.specs.Lowering.{IsUnderWay, HasFound}
use Rattle.sp_offer.specs.Rule.{IsBetweenSteps, HoldsWord, IsDone, IsSameSeat, seat_story}
use Rattle.sp_offer.proofs.atomic_words.Words.lower.Given as goal

abbrev pub invariant-loop-held : goal.invariant-loop-held
invariant-loop-held g l = let J = g.J.Asking in record {
  rests : IsBetweenSteps l.self.table.shared.table_id l.seat;
  same : IsSameSeat l.fn.seat l.seat;
  way : IsUnderWay J.layout J.law J.by l.vertex J.word l.word l.held l.tries (seat_story l.fn.seat) (seat_story l.seat);
  trail : HasFound J.layout J.by l.vertex J.word l.word l.held l.tries l.fn.seat.me.0 l.seat.me.0;
  done : l.held ≤ l.word → IsDone l.seat;
  goes_on : l.word < l.held → HoldsWord l.vertex J.word (word_of J.layout l.held) l.seat;
}

abbrev pub decreases-loop-held : goal.decreases-loop-held
decreases-loop-held g l = l.held
