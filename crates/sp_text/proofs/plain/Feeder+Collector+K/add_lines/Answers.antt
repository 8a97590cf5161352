use Rattle.std.proofs.Common.{refl}
use Rattle.sp_text.specs.Collecting.{IsAfter}
use Rattle.sp_text.specs.Lines.{ended}
use Rattle.sp_text.specs.Text.{judge}
use Rattle.sp_text.proofs.PlainText.{same_behind, lines_taken}
use Rattle.sp_text.proofs.plain.Feeder+Collector+K.add_lines.Goals as goal

pub returns-then-not-add_items : goal.returns-then-not-add_items
returns-then-not-add_items g c = λ text block ps small problem lines h.
    let told = c.if-not-add_items.ensures (ended text) (ended block) ps c.args.lines problem h.taken lines.read in
    same_behind (judge g.K.Keep.format g.K.Keep.ranges) (λ c' lines. IsAfter g.K.Keep.format g.K.Keep.Kept lines c'.keep c'.problem c'.counts) text c.args.self.now c.add_items.new.self h told

pub returns : goal.returns
returns g c = λ text block ps small problem lines h.
    let told = c.if-not-add_items.ensures (ended text) (ended block) ps c.args.lines problem h.taken lines.read in
    lines_taken (judge g.K.Keep.format g.K.Keep.ranges) (λ c' lines. IsAfter g.K.Keep.format g.K.Keep.Kept lines c'.keep c'.problem c'.counts) text block c.args.self.now c.add_items.new.self c.args.lines _ small h c.if-not-is_empty.ensures lines.whole told.0 told.1 lines.read.is_number refl
