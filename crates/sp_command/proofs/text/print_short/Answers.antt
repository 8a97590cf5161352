use Rattle.std.proofs.Common.{rules, ◌≡◌, ◌++◌}
use Rattle.std.proofs.lemmas.Fmt.{contents_after_writes}
use Rattle.sp_command.proofs.Displays.{text_taken, may_show}
use Rattle.sp_command.proofs.text.print_short.Goals as goal

pub returns-then-is_ok-clause-shown : goal.returns-then-is_ok-clause-shown
returns-then-is_ok-clause-shown g c = λ text known plain.
    let shown = c.display_on-writer in
    let calls = text_taken (λ old part new. new.inner.block ≡ old.inner.block ++ part) _ _ shown.result.0 shown.result.1 text known plain (search rules) shown.ensures in
    let block : shown.result.0.inner.block ≡ c.new.result ++ text = contents_after_writes (λ old part new. new.inner.block ≡ old.inner.block ++ part) (λ w. w.inner.block) (λ w part v is. is) _ text shown.result.0 calls in
    let is : c.bytes.result.now ≡ text = search (rules, block) in
    may_show g.W.Write c.bytes.result.now text c.args.out.now c.write_all.result c.write_all.new.out is c.write_all.ensures.written c.write_all.ensures.begun c.write_all.ensures.failed
