use Rattle.std.proofs.Common.{◌≡◌, ◌+◌, ◌*◌, [], ◌++◌, ◌≤◌, ℕ, List, length, length-append, get_or, ap, subst, refl, sym, ◌∙◌, arith}
use Rattle.sp_paths.specs.declared.arc.Arc.{Arc}
use Rattle.sp_graph.specs.Lengths.{AreLengths}
use Rattle.sp_packed.specs.Words.{HasCome, sum_on}
use Rattle.sp_packed.specs.Rows.{AreRows, IsNextRow, HasRows, IsCutIn}
use Rattle.sp_packed.proofs.RowSteps.{rows_first, no_rows_yet, first_row, lengths_came}
use Rattle.sp_packed.proofs.RowTelling.{rows_came, arc_refused, arcs_cut}
use Rattle.sp_packed.proofs.rows.read_rows.Goals as goal

pub loop-arcs-init : goal.loop-arcs-init
loop-arcs-init g c =
    let none : c.new-arcs.result.items ≡ [] = c.new-arcs.ensures.items in
    let left = g.R.Read.left c.args.reader.now in
    let sum = c.args.block.now.sum in (
      subst (λ l. HasRows left left sum sum l) (sym none) (rows_first left sum),
      subst (λ l. AreRows c.args.n c.args.ends.now l) (sym none) (no_rows_yet c.args.n c.args.ends.now),
      subst (λ (l : List Arc). IsNextRow c.args.n c.args.ends.now (length l) 1) (sym none) (first_row c.args.n _ c.args.ends.now c.requires.some c.requires.ends),
      omega (arith, ap length none),
      refl,
      refl,
      subst (λ l. AreLengths l c.none-lengths.result) (sym none) c.none-lengths.ensures,
    )

pub returns-in-Err-clause-told : goal.returns-in-Err-clause-told
returns-in-Err-clause-told g c =
    let before = c.loop-arcs.invariant in
    let same : c.numbers-numbers.result.now ≡ c.take-failed.new.self.numbers = c.numbers-numbers.ensures in
    let old = g.R.Read.left c.args.reader.now in
    let mid = g.R.Read.left c.loop-arcs.reader in
    let new = g.R.Read.left c.take-failed.new.reader in
    let broken = g.R.Read.has_failed c.take-failed.new.reader in
    let failed = c.take-failed.result in
    let ns : List ℕ = c.numbers-numbers.result.now in
    let want = c.min-want.result in
    let arcs = c.loop-arcs.arcs.items in
    let came : HasCome (2 * want) mid ns failed new = subst (λ l. HasCome (2 * want) mid l failed new) (sym same) c.take-failed.ensures.came in
    let room : length arcs + want ≤ get_or c.args.ends.now c.args.n 0 = omega (arith, c.min-want.ensures, before.3, before.4, c.len-begin.ensures) in
    arc_refused c.args.n (get_or c.args.ends.now c.args.n 0) want c.args.ends.now old mid new c.args.block.now.sum c.loop-arcs.block.sum broken failed arcs ns c.requires.ends before.1 c.push_arcs.ensures.fit
    before.0 came room c.in-Err.fault came.within c.in-Err.ensures.refused

pub returns-then-numbers-want-clause-told : goal.returns-then-numbers-want-clause-told
returns-then-numbers-want-clause-told g c =
    let before = c.loop-arcs.invariant in
    let same : c.numbers-numbers.result.now ≡ c.take-failed.new.self.numbers = c.numbers-numbers.ensures in
    let old = g.R.Read.left c.args.reader.now in
    let mid = g.R.Read.left c.loop-arcs.reader in
    let new = g.R.Read.left c.take-failed.new.reader in
    let broken = g.R.Read.has_failed c.take-failed.new.reader in
    let failed = c.take-failed.result in
    let ns : List ℕ = c.numbers-numbers.result.now in
    let want = c.min-want.result in
    let arcs = c.loop-arcs.arcs.items in
    let came : HasCome (2 * want) mid ns failed new = subst (λ l. HasCome (2 * want) mid l failed new) (sym same) c.take-failed.ensures.came in
    let room : length arcs + want ≤ get_or c.args.ends.now c.args.n 0 = omega (arith, c.min-want.ensures, before.3, before.4, c.len-begin.ensures) in
    let items = c.in-Ok.ensures.items in
    let rows : AreRows c.args.n c.args.ends.now (arcs ++ items.0) = subst (λ l. AreRows c.args.n c.args.ends.now l) items.1 c.in-Ok.ensures.rows in
    let is : c.deref.result.now ≡ arcs ++ items.0 = c.deref.ensures.value ∙ items.1 in
    let cut = subst (λ l. IsCutIn c.args.n c.args.ends.now l ns failed c.cut_fault.result) is c.cut_fault.ensures in
    arcs_cut c.args.n (get_or c.args.ends.now c.args.n 0) want c.args.ends.now old mid new c.args.block.now.sum c.loop-arcs.block.sum broken failed arcs ns c.requires.ends before.1 c.push_arcs.ensures.fit
    before.0 came room items.0 c.cut_fault.result items.2 items.3 rows c.if-numbers-want.true c.take-failed.ensures.failed cut

pub loop-arcs-preserved : goal.loop-arcs-preserved
loop-arcs-preserved g c =
    let before = c.loop-arcs.invariant in
    let same : c.numbers-numbers.result.now ≡ c.take-failed.new.self.numbers = c.numbers-numbers.ensures in
    let old = g.R.Read.left c.args.reader.now in
    let mid = g.R.Read.left c.loop-arcs.reader in
    let new = g.R.Read.left c.take-failed.new.reader in
    let failed = c.take-failed.result in
    let ns : List ℕ = c.numbers-numbers.result.now in
    let want = c.min-want.result in
    let arcs = c.loop-arcs.arcs.items in
    let came : HasCome (2 * want) mid ns failed new = subst (λ l. HasCome (2 * want) mid l failed new) (sym same) c.take-failed.ensures.came in
    let room : length arcs + want ≤ get_or c.args.ends.now c.args.n 0 = omega (arith, c.min-want.ensures, before.3, before.4, c.len-begin.ensures) in
    let sum = subst (λ l. c.take-failed.new.self.sum ≡ sum_on c.loop-arcs.block.sum l) (sym same) c.take-failed.ensures.sum in
    let items = c.in-Ok.ensures.items in
    let added : List Arc = items.0 in (
      subst (λ l. HasRows old new c.args.block.now.sum c.take-failed.new.self.sum l) (sym items.1)
          (rows_came old mid new c.args.block.now.sum c.loop-arcs.block.sum c.take-failed.new.self.sum arcs added ns want failed before.0 came c.if-numbers-want.false items.2 sum),
      c.in-Ok.ensures.rows,
      c.in-Ok.ensures.next,
      omega (arith, ap length items.1, length-append arcs added, items.3, came.within, room, before.4),
      before.4,
      c.take-failed.ensures.lasting ∙ before.5,
      subst (λ l. AreLengths l c.and-lengths.result) (sym items.1)
          (lengths_came c.deref-in-loop-arcs.result.now arcs added c.len-begin.result c.loop-arcs.lengths c.of.result c.and-lengths.result
          (c.deref-in-loop-arcs.ensures.value ∙ items.1) (omega (arith, c.len-begin.ensures)) before.6 c.of.ensures c.and-lengths.ensures),
    )
