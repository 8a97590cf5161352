use Rattle.std.proofs.Common.{◌*◌, sym, ap, ◌∙◌, arith}
use Rattle.std.proofs.lemmas.List.{take_all}
use Rattle.sp_packed.specs.Words.{words}
use Rattle.sp_packed.proofs.Spelling.{decode_more}
use Rattle.sp_packed.proofs.word_sums.decode.Goals as goal

pub loop-i-preserved : goal.loop-i-preserved
loop-i-preserved c =
    decode_more c.args.bytes.now c.loop-i.numbers c.loop-i.i c.from_le_bytes.result (omega arith) (omega arith) (λ k. omega (arith, c.type_inv.bytes k)) c.loop-i.invariant
    c.from_le_bytes.ensures

pub returns : goal.returns
returns c =
    sym (take_all (4 * c.loop-i.i) c.args.bytes.now (omega arith)) ∙ sym c.loop-i.invariant
    ∙ ap words (take_all c.loop-i.i c.loop-i.numbers (omega arith))
