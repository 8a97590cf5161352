use Rattle.std.proofs.Common.{◌≡◌, ◌∷◌, [], ◌++◌, ◌+◌, ◌≤◌, ◌<◌, ◌^◌, length, length-append, take, ap, subst, refl, sym, ◌∙◌, arith}
use Rattle.sp_packed.specs.declared.faults.PackedKind.TheVariants.{OutOfRange, Memory}
use Rattle.sp_packed.specs.declared.faults.PackedField.TheVariants.{End}
use Rattle.sp_packed.specs.Words.{HasCome, sum_on}
use Rattle.sp_packed.specs.Ends.{HasEnds, AreFirstEnds}
use Rattle.sp_packed.specs.Reading.{front_words, ToldBehind}
use Rattle.sp_packed.proofs.FrontSteps.{first_end}
use Rattle.sp_packed.proofs.EndSteps.{ends_first, ends_more, told_first, end_wrong, end_cut, end_memory}
use Rattle.sp_packed.proofs.Whole.{as_fault}
use Rattle.sp_packed.proofs.ends.read_ends.Goals as goal

pub returns-in_default-clause-told : goal.returns-in_default-clause-told
returns-in_default-clause-told g c =
    let old = g.R.Read.left c.args.reader.now in
    let broken = g.R.Read.has_failed c.args.reader.now in
    as_fault (λ e. ToldBehind (front_words c.args.n c.args.m) c.args.n c.args.m old old broken e) c.behind.result 16 Memory c.behind.ensures.at c.behind.ensures.kind
    (told_first c.args.n c.args.m old broken)

pub loop-ends-init : goal.loop-ends-init
loop-ends-init g c =
    let is : c.push.new.self.items ≡ 0 ∷ [] = c.in-Ok.ensures.items ∙ ap (λ l. l ++ 0 ∷ []) c.new-ends.ensures.items in
    let left = g.R.Read.left c.args.reader.now in
    let sum = c.args.block.now.sum in (
      subst (λ l. HasEnds left left sum sum l) (sym is) (ends_first left sum),
      subst (λ l. AreFirstEnds c.args.n c.args.m l) (sym is) (first_end c.args.n c.args.m c.requires),
      omega (arith, ap length is),
      refl,
      refl,
    )

pub returns-in-Some-clause-told : goal.returns-in-Some-clause-told
returns-in-Some-clause-told g c =
    let before = c.loop-ends.invariant in
    let n = c.args.n in
    let m = c.args.m in
    let old = g.R.Read.left c.args.reader.now in
    let mid = g.R.Read.left c.loop-ends.reader in
    let new = g.R.Read.left c.take-failed.new.reader in
    let broken = g.R.Read.has_failed c.take-failed.new.reader in
    let failed = c.take-failed.result in
    let ns = c.numbers-numbers.result.now in
    let want = c.min-want.result in
    let ends = c.loop-ends.ends.items in
    let fits : m < 2 ^ 32 = omega (arith, c.ranges.m.fits) in
    let came : HasCome want mid ns failed new = subst (λ l. HasCome want mid l failed new) (sym c.numbers-numbers.ensures) c.take-failed.ensures.came in
    let room : length ends + want ≤ n + 1 = omega (arith, c.min-want.ensures, c.len-in-loop-ends.ensures, before.2) in
    let k = c.in-Some.k in
    let front = subst (λ l. AreFirstEnds n m (l ++ take k ns)) c.deref.ensures.value c.in-Some.ensures.before in
    let e = c.behind-in-Some.result in
    as_fault (λ x. ToldBehind (front_words n m) n m old new broken x) e e.at (OutOfRange End) refl c.behind-in-Some.ensures.kind
    (end_wrong n m want old mid new c.args.block.now.sum c.loop-ends.block.sum broken failed ends ns fits c.wrong_end.ensures.fit before.0 before.1 came room
    k e.at (omega (arith, c.behind-in-Some.ensures.at, c.len-in-loop-ends-2.ensures)) c.in-Some.ensures.place front
    (λ next. c.in-Some.ensures.wrong (subst (λ l. AreFirstEnds n m (l ++ take (k + 1) ns)) (sym c.deref.ensures.value) next)))

pub returns-then-numbers-want-clause-told : goal.returns-then-numbers-want-clause-told
returns-then-numbers-want-clause-told g c =
    let before = c.loop-ends.invariant in
    let n = c.args.n in
    let m = c.args.m in
    let old = g.R.Read.left c.args.reader.now in
    let mid = g.R.Read.left c.loop-ends.reader in
    let new = g.R.Read.left c.take-failed.new.reader in
    let broken = g.R.Read.has_failed c.take-failed.new.reader in
    let failed = c.take-failed.result in
    let ns = c.numbers-numbers.result.now in
    let want = c.min-want.result in
    let ends = c.loop-ends.ends.items in
    let fits : m < 2 ^ 32 = omega (arith, c.ranges.m.fits) in
    let came : HasCome want mid ns failed new = subst (λ l. HasCome want mid l failed new) (sym c.numbers-numbers.ensures) c.take-failed.ensures.came in
    let room : length ends + want ≤ n + 1 = omega (arith, c.min-want.ensures, c.len-in-loop-ends.ensures, before.2) in
    let right : AreFirstEnds n m (ends ++ ns) = subst (λ l. AreFirstEnds n m (l ++ ns)) c.deref.ensures.value (c.in_default-wrong_end.ensures.right refl) in
    let e = c.cut.result in
    as_fault (λ x. ToldBehind (front_words n m) n m old new broken x) e e.at e.kind refl refl
    (end_cut n m want old mid new c.args.block.now.sum c.loop-ends.block.sum broken failed ends ns fits c.wrong_end.ensures.fit before.0 before.1 came room
    (length ns) e.at e.kind (omega (arith, c.cut.ensures.at, c.len-in-loop-ends-2.ensures)) refl c.if-numbers-want.true right c.cut.ensures.few c.cut.ensures.read c.take-failed.ensures.failed)

pub loop-ends-preserved : goal.loop-ends-preserved
loop-ends-preserved g c =
    let before = c.loop-ends.invariant in
    let n = c.args.n in
    let m = c.args.m in
    let old = g.R.Read.left c.args.reader.now in
    let mid = g.R.Read.left c.loop-ends.reader in
    let new = g.R.Read.left c.take-failed.new.reader in
    let broken = g.R.Read.has_failed c.take-failed.new.reader in
    let failed = c.take-failed.result in
    let ns = c.numbers-numbers.result.now in
    let want = c.min-want.result in
    let ends = c.loop-ends.ends.items in
    let fits : m < 2 ^ 32 = omega (arith, c.ranges.m.fits) in
    let came : HasCome want mid ns failed new = subst (λ l. HasCome want mid l failed new) (sym c.numbers-numbers.ensures) c.take-failed.ensures.came in
    let room : length ends + want ≤ n + 1 = omega (arith, c.min-want.ensures, c.len-in-loop-ends.ensures, before.2) in
    let right : AreFirstEnds n m (ends ++ ns) = subst (λ l. AreFirstEnds n m (l ++ ns)) c.deref.ensures.value (c.in_default-wrong_end.ensures.right refl) in
    let items = c.in-Ok-extend_from_slice.ensures.items in
    let sum = subst (λ l. c.take-failed.new.self.sum ≡ sum_on c.loop-ends.block.sum l) (sym c.numbers-numbers.ensures) c.take-failed.ensures.sum in (
      subst (λ l. HasEnds old new c.args.block.now.sum c.take-failed.new.self.sum l) (sym items)
          (ends_more old mid new c.args.block.now.sum c.loop-ends.block.sum c.take-failed.new.self.sum ends ns want failed before.0 came c.if-numbers-want.false sum),
      subst (λ l. AreFirstEnds n m l) (sym items) right,
      omega (arith, ap length items, length-append ends ns, came.within, room),
      refl,
      c.take-failed.ensures.lasting ∙ before.4,
    )

pub returns-in_default-extend_from_slice-clause-told : goal.returns-in_default-extend_from_slice-clause-told
returns-in_default-extend_from_slice-clause-told g c =
    let before = c.loop-ends.invariant in
    let n = c.args.n in
    let m = c.args.m in
    let old = g.R.Read.left c.args.reader.now in
    let mid = g.R.Read.left c.loop-ends.reader in
    let new = g.R.Read.left c.take-failed.new.reader in
    let broken = g.R.Read.has_failed c.take-failed.new.reader in
    let failed = c.take-failed.result in
    let ns = c.numbers-numbers.result.now in
    let want = c.min-want.result in
    let ends = c.loop-ends.ends.items in
    let fits : m < 2 ^ 32 = omega (arith, c.ranges.m.fits) in
    let came : HasCome want mid ns failed new = subst (λ l. HasCome want mid l failed new) (sym c.numbers-numbers.ensures) c.take-failed.ensures.came in
    let room : length ends + want ≤ n + 1 = omega (arith, c.min-want.ensures, c.len-in-loop-ends.ensures, before.2) in
    let right : AreFirstEnds n m (ends ++ ns) = subst (λ l. AreFirstEnds n m (l ++ ns)) c.deref.ensures.value (c.in_default-wrong_end.ensures.right refl) in
    let e = c.behind-in_default-extend_from_slice.result in
    as_fault (λ x. ToldBehind (front_words n m) n m old new broken x) e e.at Memory refl c.behind-in_default-extend_from_slice.ensures.kind
    (end_memory n m want old mid new c.args.block.now.sum c.loop-ends.block.sum broken failed ends ns fits c.wrong_end.ensures.fit before.0 before.1 came room
    e.at (omega (arith, c.behind-in_default-extend_from_slice.ensures.at, c.len-in-loop-ends-2.ensures))
    (omega (arith, c.if-numbers-want.false, c.min-want.ensures, c.len-in-loop-ends.ensures, c.loop-ends-test.true, c.len.ensures)) right)
