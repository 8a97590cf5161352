use Rattle.std.proofs.Common.{◌≡◌, ◌≤◌, ◌^◌, ◌++◌, ℕ, List, length, length-append, append_assoc, arith, sym, ap, ◌∙◌}
use Rattle.std.proofs.lemmas.Result.{err_from_is_err_and}
use Rattle.sp_text.specs.Lines.{ended}
use Rattle.sp_text.specs.Text.{judge}
use Rattle.sp_text.specs.Feeding.{Refused}
use Rattle.sp_text.proofs.Behind.{refused_earlier, more_ended}
use Rattle.sp_text.proofs.items.Feeder+Collector+K.feed_items.Goals as goal

-- What came of the piece is no longer than the piece.
short_piece : (text piece front rest : List ℕ) → piece ≡ front ++ rest → length (text ++ piece) ≤ 2 ^ 62 → length (text ++ front ++ rest) ≤ 2 ^ 62
short_piece text piece front rest parts small = omega (arith, length-append text piece, length-append (text ++ front) rest, length-append text front, length-append front rest, ap length parts)

pub loop-rest-preserved : goal.loop-rest-preserved
loop-rest-preserved g c =
    let before = c.loop-rest.invariant in
    let run = rw c.in_ok-taken.was at c.take_next-taken.ensures.taken in
    let front = before.0 in (
      front ++ run.front,
      before.1 ∙ (ap (λ t. front ++ t) run.parts ∙ sym (append_assoc front run.front _)),
      λ text small h.
          rw (← append_assoc text front run.front) (run.read (text ++ front) (short_piece text c.args.piece.now front c.loop-rest.rest.now before.1 small) (before.2 text small h)),
    )

pub returns-in_err-taken : goal.returns-in_err-taken
returns-in_err-taken g c = λ text small h.
    let before = c.loop-rest.invariant in
    let front = before.0 in
    let rest = c.loop-rest.rest.now in
    let e = c.in_err-taken.field-0.0 in
    let rules = judge g.K.Keep.format g.K.Keep.ranges in
    let refuses = rw c.in_err-taken.was at c.take_next-taken.ensures.refused in
    let told = refuses (text ++ front) (short_piece text c.args.piece.now front rest before.1 small) (before.2 text small h) in
    let whole : text ++ front ++ rest ≡ text ++ c.args.piece.now = append_assoc text front rest ∙ ap (λ (t : List ℕ). text ++ t) (sym before.1) in
    let refused : Refused rules (ended text) (text ++ front ++ rest) e = refused_earlier rules (ended text) (ended (text ++ front)) (text ++ front ++ rest) e (more_ended text front) told.1 in
    let p = err_from_is_err_and c.from_residual.result c.from_residual.ensures.1 in
    rw (p.1, p.2) (told.0, rw (← whole) refused)
