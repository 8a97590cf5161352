use Rattle.std.proofs.Common.{arith, sym, ◌∙◌}
use Rattle.sp_text.specs.Text.{items_of}
use Rattle.sp_text.proofs.KeptLine.{on_ok_at}
use Rattle.sp_text.proofs.PlainLines.{items_added}
use Rattle.sp_text.proofs.collecting.Collector.add_items.Goals as goal

pub returns : goal.returns
returns g c = λ before all ps number problem h read.
    items_added g.K.Keep.format c.format-format.result _ g.K.Keep.ranges c.ranges-2.result g.K.Keep.Kept ps c.in-Some.problem before all c.args.self.now.keep c.args.keep.now c.append.new.self c.args.self.now.problem c.args.self.now.counts c.in-Some-checked_add.count c.greatest.result number
    c.format-format.ensures.format c.ranges-2.ensures c.in-len1-up.len_at_least c.in-Some.is c.greatest.ensures c.if-greatest-count.false (omega (arith, c.in-Some-checked_add.ensures, c.count.ensures (items_of g.K.Keep.format all) read.kept))
    problem h read (on_ok_at c.append.result (sym c.is_err.ensures.value ∙ c.if-is_err.false) (c.append.ensures.appended (items_of g.K.Keep.format before) (items_of g.K.Keep.format all) h.kept_are read.kept))
