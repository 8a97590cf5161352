use Rattle.std.proofs.Common.{[], ◌∷◌}
use Rattle.std.specs.Prelude.{is_ok}
use Rattle.std.proofs.lemmas.List.Elements.{All-cons, All-nil}
use Rattle.sp_parts.specs.Parts.{IsPart}
use Rattle.sp_parts.proofs.Lists.{all_with}
use Rattle.sp_parts.proofs.parts.read_parts.Goals as goal

pub loop-preserved : goal.loop-preserved
loop-preserved g c =
    let P = IsPart {keeper = g.K.Keep} c.args.reader.now c.args.text.now in
    all_with P (is_ok c.push.result) c.loop.parts.items (c.in-Ok.part ∷ []) c.push.new.self.items c.push.ensures.items c.loop.invariant (All-cons P c.in-Ok.part [] c.in-Ok.ensures (All-nil P))

pub returns-then-is_err : goal.returns-then-is_err
returns-then-is_err g c =
    let P = IsPart {keeper = g.K.Keep} c.args.reader.now c.args.text.now in
    all_with P (is_ok c.push.result) c.loop.parts.items (c.in-Ok.part ∷ []) c.push.new.self.items c.push.ensures.items c.loop.invariant (All-cons P c.in-Ok.part [] c.in-Ok.ensures (All-nil P))
