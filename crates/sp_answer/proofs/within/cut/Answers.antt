use Rattle.std.proofs.Common.{◌∙◌, ap, arith}
use Rattle.std.specs.Prelude.{slice_set}
use Rattle.std.proofs.lemmas.List.Edits.{map_over_more}
use Rattle.sp_word.specs.Word.{Word}
use Rattle.sp_answer.specs.Within.{up_to}
use Rattle.sp_answer.proofs.within.cut.Goals as goal

pub loop-place-preserved : goal.loop-place-preserved
loop-place-preserved g c =
    ap (λ (w : Word). slice_set c.loop-place.words.items c.loop-place.place w) c.up_to.ensures
    ∙ map_over_more (up_to c.args.limit) c.args.words.now.items c.loop-place.words.items c.loop-place.place c.index.result.now (omega (arith, c.loop-place-test.true, c.len-place-end.ensures, c.args.words.now.ok.0)) c.loop-place.invariant c.index.ensures
