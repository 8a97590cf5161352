use Rattle.std.proofs.Common.{sym}
use Rattle.sp_order.proofs.Telling.{alone, with_more, more_told, cut_told}
use Rattle.sp_order.proofs.hints.Refusal.tell.Goals as goal

pub returns-in-Line : goal.returns-in-Line
returns-in-Line g c = alone g.E.Write _ _ _ _ _ c.in-Line.is c.write_line.ensures

pub returns-then-is_ok : goal.returns-then-is_ok
returns-then-is_ok g c =
    with_more g.E.Write _ c.in-Lines.hint _ _ _ c.in-Lines.is
    (more_told g.E.Write _ _ _ _ _ (sym c.if-is_ok.ensures.value) c.write_line-in-Lines.ensures c.print_short.ensures.kept)

pub returns-else-is_ok : goal.returns-else-is_ok
returns-else-is_ok g c =
    with_more g.E.Write _ c.in-Lines.hint _ _ _ c.in-Lines.is
    (cut_told g.E.Write _ _ _ _ c.if-is_ok.ensures.negation c.write_line-in-Lines.ensures)
