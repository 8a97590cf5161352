use Rattle.std.proofs.Common.{◌≡◌, ◌*◌, ◌/◌, ◌≤◌, length, sym, ◌∙◌, subst, arith}
use Rattle.std.proofs.lemmas.List.{take_at, take-append-le, length-take-le}
use Rattle.sp_packed.specs.Words.{HasCome}
use Rattle.sp_packed.proofs.Coming.{come}
use Rattle.sp_packed.proofs.blocks.take_words.Goals as goal

pub returns-clause-came : goal.returns-clause-came
returns-clause-came g c =
    let got = c.fill-got.result.0 in
    let failed = c.fill-got.result.1 in
    let len = got / 4 in
    let bytes = c.fill-got.new.bytes in
    let numbers = c.decode.new.numbers in
    let room : length bytes ≡ 4 * c.args.count = c.fill-got.auto.bytes ∙ length-take-le (4 * c.args.count) c.args.bytes.now c.requires.bytes in
    let fits : got ≤ length bytes = c.fill-got.ensures.within in
    let few : len ≤ length c.args.numbers.now = omega (arith, c.requires.numbers, fits, room) in
    let size : length numbers ≡ len = c.decode.auto.numbers ∙ length-take-le len c.args.numbers.now few in
    let old = g.R.Read.left c.args.reader.now in
    let now = g.R.Read.left c.fill-got.new.reader in
    let h : HasCome c.args.count old numbers failed now
    = come old now c.args.count got failed bytes numbers size fits room c.fill-got.ensures.bytes c.fill-got.ensures.end
    (sym (take-append-le (4 * len) bytes _ (omega arith)) ∙ c.decode.ensures) in
    subst (λ l. HasCome c.args.count old l failed now) (sym (take_at numbers _ len size)) h
