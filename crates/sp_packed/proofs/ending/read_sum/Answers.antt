use Rattle.std.proofs.Common.{◌≡◌, [], get_or, take, refl, sym, ap, subst, ◌∙◌, arith}
use Rattle.std.specs.Io.KnownBytes.{Consumes}
use Rattle.std.proofs.lemmas.List.{length-take-le}
use Rattle.sp_packed.specs.declared.faults.PackedKind.TheVariants.{OtherSum, TooMany, Read}
use Rattle.sp_packed.specs.Words.{HasCome, sum_words}
use Rattle.sp_packed.specs.Packed.{content}
use Rattle.sp_packed.specs.Reading.{ToldBehind}
use Rattle.sp_packed.proofs.SumSteps.{sum_wrong, sum_cut, bytes_behind, failed_behind, sum_came}
use Rattle.sp_packed.proofs.Whole.{as_fault}
use Rattle.sp_packed.proofs.ending.read_sum.Goals as goal

pub returns-then-right-numbers-clause-told : goal.returns-then-right-numbers-clause-told
returns-then-right-numbers-clause-told g c ends arcs are rows all is =
    let old = g.R.Read.left c.args.reader.now in
    let mid = g.R.Read.left c.take-failed.new.reader in
    let broken = g.R.Read.has_failed c.take-failed.new.reader in
    let failed = c.take-failed.result in
    let ns = c.numbers-numbers.result.now in
    let s = c.args.block.now.sum in
    let come : HasCome 4 old ns failed mid = subst (λ l. HasCome 4 old l failed mid) (sym c.numbers-numbers.ensures) c.take-failed.ensures.came in
    let right = c.count_same-right in
    let words_are : c.sum_numbers-sum.result ≡ sum_words s = c.sum_numbers-sum.ensures.words ∙ ap sum_words c.sum.ensures in
    as_fault (λ e. ToldBehind (content c.args.n ends arcs) c.args.n c.args.m old mid broken e) c.behind.result c.behind.result.at OtherSum refl c.behind.ensures.kind
    (sum_wrong c.args.n c.args.m ends arcs are rows all old mid mid broken failed s is ns right.ensures.fit come right.result right.ensures.within
    (λ i lt. right.ensures.same i lt ∙ ap (λ l. get_or l i 0) words_are)
    c.behind.result.at c.behind.ensures.at c.if-right-numbers.true (λ e. right.ensures.other c.if-right-numbers.true (e ∙ sym (ap (λ l. get_or l right.result 0) words_are))))

pub returns-then-right-lt-OF_SUM-clause-told : goal.returns-then-right-lt-OF_SUM-clause-told
returns-then-right-lt-OF_SUM-clause-told g c ends arcs are rows all is =
    let old = g.R.Read.left c.args.reader.now in
    let mid = g.R.Read.left c.take-failed.new.reader in
    let broken = g.R.Read.has_failed c.take-failed.new.reader in
    let failed = c.take-failed.result in
    let ns = c.numbers-numbers.result.now in
    let s = c.args.block.now.sum in
    let come : HasCome 4 old ns failed mid = subst (λ l. HasCome 4 old l failed mid) (sym c.numbers-numbers.ensures) c.take-failed.ensures.came in
    let right = c.count_same-right in
    let words_are : c.sum_numbers-sum.result ≡ sum_words s = c.sum_numbers-sum.ensures.words ∙ ap sum_words c.sum.ensures in
    as_fault (λ e. ToldBehind (content c.args.n ends arcs) c.args.n c.args.m old mid broken e) c.cut.result c.cut.result.at c.cut.result.kind refl refl
    (sum_cut c.args.n c.args.m ends arcs are rows all old mid mid broken failed s is ns right.ensures.fit come right.result right.ensures.within
    (λ i lt. right.ensures.same i lt ∙ ap (λ l. get_or l i 0) words_are)
    c.cut.result.at c.cut.result.kind c.cut.ensures.at (omega (arith, right.ensures.within, c.if-right-numbers.false)) c.if-right-lt-OF_SUM.true c.cut.ensures.few c.cut.ensures.read
    c.take-failed.ensures.failed)

pub returns-then-more-gt0-clause-told : goal.returns-then-more-gt0-clause-told
returns-then-more-gt0-clause-told g c ends arcs are rows all is =
    let old = g.R.Read.left c.args.reader.now in
    let mid = g.R.Read.left c.take-failed.new.reader in
    let new = g.R.Read.left c.fill-more.new.reader in
    let broken = g.R.Read.has_failed c.fill-more.new.reader in
    let failed = c.take-failed.result in
    let ns = c.numbers-numbers.result.now in
    let s = c.args.block.now.sum in
    let come : HasCome 4 old ns failed mid = subst (λ l. HasCome 4 old l failed mid) (sym c.numbers-numbers.ensures) c.take-failed.ensures.came in
    let right = c.count_same-right in
    let words_are : c.sum_numbers-sum.result ≡ sum_words s = c.sum_numbers-sum.ensures.words ∙ ap sum_words c.sum.ensures in
    let full : right.result ≡ 4 = omega (arith, c.if-right-lt-OF_SUM.false, right.ensures.within, come.within) in
    let more = c.fill-more.result.0 in
    let bytes = take more c.fill-more.new.bytes in
    as_fault (λ e. ToldBehind (content c.args.n ends arcs) c.args.n c.args.m old new broken e) c.behind-then-more-gt0.result c.behind-then-more-gt0.result.at TooMany refl c.behind-then-more-gt0.ensures.kind
    (bytes_behind c.args.n c.args.m ends arcs are rows all old mid new broken failed s is ns right.ensures.fit come right.result right.ensures.within
    (λ i lt. right.ensures.same i lt ∙ ap (λ l. get_or l i 0) words_are)
    c.behind-then-more-gt0.result.at bytes c.behind-then-more-gt0.ensures.at full c.fill-more.ensures.bytes (omega (arith, length-take-le more c.fill-more.new.bytes c.fill-more.ensures.within, c.if-more-gt0.true)))

pub returns-then-failed-clause-told : goal.returns-then-failed-clause-told
returns-then-failed-clause-told g c ends arcs are rows all is =
    let old = g.R.Read.left c.args.reader.now in
    let mid = g.R.Read.left c.take-failed.new.reader in
    let new = g.R.Read.left c.fill-more.new.reader in
    let broken = g.R.Read.has_failed c.fill-more.new.reader in
    let failed = c.take-failed.result in
    let ns = c.numbers-numbers.result.now in
    let s = c.args.block.now.sum in
    let come : HasCome 4 old ns failed mid = subst (λ l. HasCome 4 old l failed mid) (sym c.numbers-numbers.ensures) c.take-failed.ensures.came in
    let right = c.count_same-right in
    let words_are : c.sum_numbers-sum.result ≡ sum_words s = c.sum_numbers-sum.ensures.words ∙ ap sum_words c.sum.ensures in
    let full : right.result ≡ 4 = omega (arith, c.if-right-lt-OF_SUM.false, right.ensures.within, come.within) in
    let none : c.fill-more.result.0 ≡ 0 = omega (arith, c.if-more-gt0.false) in
    let took : Consumes mid new [] = subst (λ k. Consumes mid new (take k c.fill-more.new.bytes)) none c.fill-more.ensures.bytes in
    as_fault (λ e. ToldBehind (content c.args.n ends arcs) c.args.n c.args.m old new broken e) c.behind-then-failed.result c.behind-then-failed.result.at Read refl c.behind-then-failed.ensures.kind
    (failed_behind c.args.n c.args.m ends arcs are rows all old mid new broken failed s is ns right.ensures.fit come right.result right.ensures.within
    (λ i lt. right.ensures.same i lt ∙ ap (λ l. get_or l i 0) words_are)
    c.behind-then-failed.result.at c.behind-then-failed.ensures.at full took (c.fill-more.ensures.failed c.if-failed.true))

pub returns-clause-sum : goal.returns-clause-sum
returns-clause-sum g c =
    let old = g.R.Read.left c.args.reader.now in
    let mid = g.R.Read.left c.take-failed.new.reader in
    let new = g.R.Read.left c.fill-more.new.reader in
    let failed = c.take-failed.result in
    let ns = c.numbers-numbers.result.now in
    let s = c.args.block.now.sum in
    let come : HasCome 4 old ns failed mid = subst (λ l. HasCome 4 old l failed mid) (sym c.numbers-numbers.ensures) c.take-failed.ensures.came in
    let right = c.count_same-right in
    let words_are : c.sum_numbers-sum.result ≡ sum_words s = c.sum_numbers-sum.ensures.words ∙ ap sum_words c.sum.ensures in
    let full : right.result ≡ 4 = omega (arith, c.if-right-lt-OF_SUM.false, right.ensures.within, come.within) in
    let none : c.fill-more.result.0 ≡ 0 = omega (arith, c.if-more-gt0.false) in
    let took : Consumes mid new [] = subst (λ k. Consumes mid new (take k c.fill-more.new.bytes)) none c.fill-more.ensures.bytes in
    sum_came old mid new failed s ns right.result come full right.ensures.within (λ i lt. right.ensures.same i lt ∙ ap (λ l. get_or l i 0) words_are) took
