use Rattle.std.proofs.Common.{◌≡◌, ◌*◌, refl, sym, subst, arith}
use Rattle.sp_packed.specs.Words.{HasCome, sum_on}
use Rattle.sp_packed.specs.Reading.{Told}
use Rattle.sp_packed.proofs.FrontSteps.{front_wrong, front_cut, front_came}
use Rattle.sp_packed.proofs.Whole.{as_fault}
use Rattle.sp_packed.proofs.front.read_front.Goals as goal

pub returns-then-right-numbers-clause-told : goal.returns-then-right-numbers-clause-told
returns-then-right-numbers-clause-told g c =
    let old = g.R.Read.left c.args.reader.now in
    let new = g.R.Read.left c.take-failed.new.reader in
    let broken = g.R.Read.has_failed c.take-failed.new.reader in
    let failed = c.take-failed.result in
    let ns = c.numbers-numbers.result.now in
    let come : HasCome 5 old ns failed new = subst (λ l. HasCome 5 old l failed new) (sym c.numbers-numbers.ensures) c.take-failed.ensures.came in
    let right = c.count_right-right in
    as_fault (λ e. Told c.args.top c.args.most_arcs old new broken e) c.behind.result (4 * right.result) c.front_kind.result c.behind.ensures.at c.behind.ensures.kind
    (front_wrong c.args.top c.args.most_arcs c.requires old new broken failed ns right.ensures.fit come right.result right.ensures.within right.ensures.right
    c.front_kind.result c.if-right-numbers.true (right.ensures.wrong c.if-right-numbers.true) c.front_kind.ensures.word c.front_kind.ensures.place)

pub returns-then-right-lt-FRONT-clause-told : goal.returns-then-right-lt-FRONT-clause-told
returns-then-right-lt-FRONT-clause-told g c =
    let old = g.R.Read.left c.args.reader.now in
    let new = g.R.Read.left c.take-failed.new.reader in
    let broken = g.R.Read.has_failed c.take-failed.new.reader in
    let failed = c.take-failed.result in
    let ns = c.numbers-numbers.result.now in
    let come : HasCome 5 old ns failed new = subst (λ l. HasCome 5 old l failed new) (sym c.numbers-numbers.ensures) c.take-failed.ensures.came in
    let right = c.count_right-right in
    as_fault (λ e. Told c.args.top c.args.most_arcs old new broken e) c.cut.result (4 * right.result) c.cut.result.kind c.cut.ensures.at refl
    (front_cut c.args.top c.args.most_arcs c.requires old new broken failed ns right.ensures.fit come right.result right.ensures.within right.ensures.right
    c.cut.result.kind (omega (arith, right.ensures.within, c.if-right-numbers.false)) c.if-right-lt-FRONT.true c.cut.ensures.few c.cut.ensures.read c.take-failed.ensures.failed)

pub returns-clause-front : goal.returns-clause-front
returns-clause-front g c =
    let old = g.R.Read.left c.args.reader.now in
    let new = g.R.Read.left c.take-failed.new.reader in
    let broken = g.R.Read.has_failed c.take-failed.new.reader in
    let failed = c.take-failed.result in
    let ns = c.numbers-numbers.result.now in
    let come : HasCome 5 old ns failed new = subst (λ l. HasCome 5 old l failed new) (sym c.numbers-numbers.ensures) c.take-failed.ensures.came in
    let right = c.count_right-right in
    let sum = subst (λ l. c.take-failed.new.self.sum ≡ sum_on c.args.block.now.sum l) (sym c.numbers-numbers.ensures) c.take-failed.ensures.sum in
    let five : right.result ≡ 5 = omega (arith, c.if-right-lt-FRONT.false, right.ensures.within, come.within) in
    front_came c.args.top c.args.most_arcs c.requires old new broken failed ns right.ensures.fit come right.result right.ensures.within right.ensures.right
    c.args.block.now.sum c.take-failed.new.self.sum five sum
