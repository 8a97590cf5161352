use Rattle.std.proofs.Common.{drop, sym, ◌∙◌}
use Rattle.std.proofs.lemmas.Bool.{false≢true}
use Rattle.std.proofs.lemmas.List.{take_rest}
use Rattle.sp_files.proofs.Parts.{next_is, last_is, no_next, no_space, other_byte, begins_so}
use Rattle.sp_files.proofs.fields.next_number.Goals as goal

pub returns-in_err-number : goal.returns-in_err-number
returns-in_err-number c = rw c.from_residual.ensures (no_next c.args.text.now (λ rest parts ends number. false≢true (sym c.in_err-number.ensures ∙ number)))

pub returns-in_default : goal.returns-in_default
returns-in_default c = last_is c.args.text.now c.in_ok-number.number c.in_ok-number.end c.in_ok-number.ensures (rw c.split_at.ensures.back at c.in_default.len_below)

pub returns-then-first-ne32 : goal.returns-then-first-ne32
returns-then-first-ne32 c =
    no_space c.args.text.now c.in_ok-number.number c.in_ok-number.end c.in_ok-number.ensures (rw c.split_at.ensures.back at (other_byte c.split_at.result.1.now c.in-len1-up.len_at_least c.if-first-ne32.true))

pub returns : goal.returns
returns c =
    let after = c.split_at.result.1.now in
    let h = next_is c.args.text.now (drop 1 after) c.in_ok-number.number c.in_ok-number.end c.in_ok-number.ensures (sym c.split_at.ensures.back ∙ begins_so after c.in-len1-up.len_at_least c.if-first-ne32.false) in
    rw (take_rest after 1) h
