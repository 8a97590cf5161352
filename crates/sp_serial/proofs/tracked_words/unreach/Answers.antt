use Rattle.std.proofs.Common.{◌≡◌, ℕ, ◌∙◌, replicate, sym, subst}
use Rattle.sp_word.specs.Word.{Unreached}
use Rattle.sp_serial.proofs.Touching.{touched_none}
use Rattle.sp_serial.proofs.tracked_words.unreach.Goals as goal

pub returns : goal.returns
returns g c =
    let words = c.loop-vertex.words.items in
    let (size, tracked) = c.loop-vertex.invariant in
    subst (λ (n : ℕ). words ≡ replicate n Unreached) (size ∙ sym c.args.words.now.ok.0) (touched_none c.loop-vertex.vertex-index c.args.reached.now words c.loop-vertex-test.false tracked)
