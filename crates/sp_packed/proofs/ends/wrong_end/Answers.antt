use Rattle.std.proofs.Common.{◌≡◌, ◌+◌, ◌-◌, ◌≤◌, ◌++◌, ◌∷◌, [], length, get_or, take, sym, ap, subst, ◌∙◌, arith, length-append}
use Rattle.std.proofs.lemmas.List.{take_all, length-take-le}
use Rattle.sp_packed.specs.Ends.{AreRising}
use Rattle.sp_packed.proofs.EndSteps.{first_front, rising_push, rising_last, rising_front, push_next, last_pushed}
use Rattle.sp_packed.proofs.ends.wrong_end.Goals.{then-number-last-via-then-number-last, then-number-last-via-else-number-last+then-m-number}
use Rattle.sp_packed.proofs.ends.wrong_end.Goals as goal

pub returns-then-number-last-clause-wrong : goal.returns-then-number-last-clause-wrong
returns-then-number-last-clause-wrong c first =
    let ends = c.args.ends.now in
    let ns = c.args.numbers.now in
    let k = c.loop-k.k in
    let before = c.loop-k.invariant in
    let front = ends ++ take k ns in
    let some : 1 ≤ length front = omega (arith, length-append ends (take k ns), c.requires.some) in
    let rising : AreRising c.args.m (front ++ get_or ns k 0 ∷ []) = subst (AreRising c.args.m) (push_next ends ns k c.loop-k-test.true) first.rising in
    let last = rising_last c.args.m front (get_or ns k 0) rising some in
    elim c.then-number-last.branch [ then-number-last-via-then-number-last w ↦ omega (arith, w.if-number-last.true, last.0, before.1) | then-number-last-via-else-number-last+then-m-number w ↦ omega (arith, w.if-m-number.true, last.1) ]

pub loop-k-preserved : goal.loop-k-preserved
loop-k-preserved c =
    let ends = c.args.ends.now in
    let ns = c.args.numbers.now in
    let k = c.loop-k.k in
    let before = c.loop-k.invariant in
    let front = ends ++ take k ns in
    let some : 1 ≤ length front = omega (arith, length-append ends (take k ns), c.requires.some) in
    let low : get_or front (length front - 1) 0 ≤ get_or ns k 0 = omega (arith, c.if-number-last.false, before.1) in
    let high : get_or ns k 0 ≤ c.args.m = c.if-m-number.false in
    (subst (AreRising c.args.m) (sym (push_next ends ns k c.loop-k-test.true)) (rising_push c.args.m front (get_or ns k 0) before.0 some low high), sym (last_pushed ends ns k c.loop-k-test.true))

pub returns-then-last-m-clause-before : goal.returns-then-last-m-clause-before
returns-then-last-m-clause-before c =
    let ends = c.args.ends.now in
    let ns = c.args.numbers.now in
    let k = length ns - 1 in
    let more : 1 ≤ length ns = omega (arith, c.if-ends-numbers.true, c.requires.few) in
    let front = ends ++ take k ns in
    let some : 1 ≤ length front = omega (arith, length-append ends (take k ns), c.requires.some) in
    let whole : take c.loop-k.k ns ≡ take (k + 1) ns = take_all c.loop-k.k ns c.loop-k-test.false ∙ sym (take_all (k + 1) ns (omega arith)) in
    let rising : AreRising c.args.m (front ++ get_or ns k 0 ∷ [])
    = subst (AreRising c.args.m) (ap (λ l. ends ++ l) whole ∙ push_next ends ns k (omega arith)) c.loop-k.invariant.0 in
    first_front c.args.n c.args.m ends ns k c.requires.first (rising_front c.args.m front (get_or ns k 0) rising some)
    (omega (arith, length-take-le k ns (omega arith), c.if-ends-numbers.true))
