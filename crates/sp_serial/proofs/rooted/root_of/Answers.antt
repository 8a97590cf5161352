use Rattle.std.proofs.Common.{ℕ, List, ap, ◌∙◌, subst, arith}
use Rattle.sp_word.specs.Word.{Word, Pair}
use Rattle.sp_serial.specs.Rooted.{IsRowAt}
use Rattle.sp_serial.proofs.PartRows.{pair_is}
use Rattle.sp_serial.proofs.RootedRows.{source_root, later_root}
use Rattle.sp_serial.proofs.rooted.root_of.Goals as goal

pub returns-then-pred-eq0 : goal.returns-then-pred-eq0
returns-then-pred-eq0 g c = λ some none.
    let row = c.row_at-row.result in
    let pair = c.in-Some-Some in
    let word = pair_is row.1 pair.dist pair.pred pair.ensures.dist pair.ensures'.pred ∙ (ap (λ (d : ℕ). Pair d pair.pred) c.if-dist-eq0.true ∙ ap (λ (p : ℕ). Pair 0 p) c.if-pred-eq0.true) in
    source_root g.row.P c.args.tree.now c.rows-rows.ensures.table c.args.place row c.requires.place c.row_at-row.ensures word none

pub returns-in-Some : goal.returns-in-Some
returns-in-Some g c = λ some none.
    let row = c.row_at-row.result in
    let pair = c.in-Some-Some in
    let word = pair_is row.1 pair.dist pair.pred pair.ensures.dist pair.ensures'.pred in
    let before = c.in-Some.before in
    let at = subst (λ (rows : List (ℕ × Word)). IsRowAt rows pair.pred before) c.rows-rows.ensures.rows c.in-Some.ensures in
    later_root g.row.P c.args.tree.now c.rows-rows.ensures.table c.args.place row c.requires.place c.row_at-row.ensures pair.dist pair.pred word (omega (arith, c.if-dist-eq0.false)) c.args.roots.now c.requires.known before at some none
