use Rattle.std.proofs.Common.{sym, ◌∙◌}
use Rattle.sp_text.specs.Text.{problem_of, items_of, judge}
use Rattle.sp_text.specs.Collecting.{IsAfter}
use Rattle.sp_text.proofs.KeptLine.{item_taken, takes_from}
use Rattle.sp_text.proofs.collecting.Collector.take_front.Goals as goal

pub returns : goal.returns
returns g c =
    let found = c.in_ok-place.ensures in
    let line = found.2.0 in
    let item = found.2.3 in (
      line,
      found.2.1,
      found.2.2,
      λ before h.
          takes_from (judge g.K.Keep.format g.K.Keep.ranges) (λ c' lines. IsAfter g.K.Keep.format g.K.Keep.Kept lines c'.keep c'.problem c'.counts) before line c.take_item.result c.take_item.new.self
          (item_taken g.K.Keep.format g.K.Keep.ranges g.K.Keep.Kept before line item.0 c.take_item.result c.take_item.new.self.keep c.take_item.new.self.problem c.take_item.new.self.counts
          item.1 (c.take_item.ensures (problem_of g.K.Keep.format before) (items_of g.K.Keep.format before) item.0 h item.2 item.3 item.4 (rw (sym h.problem_is ∙ found.1) item.6))),
    )
