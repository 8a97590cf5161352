use Rattle.std.proofs.Common.{◌≡◌, ◌+◌, ◌*◌, ◌∷◌, [], ◌++◌, List, length, get_or, take, drop, refl, sym, ap, subst, ◌∙◌, arith, append_assoc, length-append}
use Rattle.std.proofs.lemmas.List.{take-append-drop, drop_more}
use Rattle.sp_paths.specs.declared.arc.Arc.{Arc}
use Rattle.sp_packed.specs.Packed.{arcs_words}
use Rattle.sp_packed.specs.Rows.{IsInRow, AreRows, IsNext, IsArcRefused}
use Rattle.sp_packed.proofs.RowSteps.{words_step}
use Rattle.sp_packed.proofs.rows.push_arcs.Goals as goal

pub returns-in-Err-clause-refused : goal.returns-in-Err-clause-refused
returns-in-Err-clause-refused c =
    let before = c.loop-i.invariant.2 in
    let numbers = c.args.numbers.now in
    let i = c.loop-i.i in
    let old = c.args.arcs.now.items in
    let added : List Arc = before.0 in
    let arc : Arc = record { tail = c.row_of-row.result; head = get_or numbers (2 * i) 0; len = get_or numbers (2 * i + 1) 0 } in
    let here : c.loop-i.arcs.items ≡ old ++ added = before.1 in
    let next = c.row_of-row.ensures.next in
    let rows : AreRows c.args.n c.args.ends.now c.loop-i.arcs.items = c.loop-i.invariant.1 in
    let count : c.len.result ≡ length c.loop-i.arcs.items = omega (arith, c.len.ensures) in
    let is_next : IsNext c.args.n c.args.ends.now c.loop-i.arcs.items arc = record { some = next.some; within = next.within; row = subst (λ k. IsInRow c.args.ends.now k c.row_of-row.result) count c.row_of-row.ensures.row; fits = omega (arith, c.type_inv.numbers (2 * i + 1)) } in
    record {
      added = added;
      arc = arc;
      rest = drop (2 * i + 1 + 1) numbers;
      spells = sym (take-append-drop (2 * i) numbers) ∙ ap (λ l. l ++ drop (2 * i) numbers) (sym before.2)
          ∙ ap (λ l. arcs_words added ++ l) (drop_more numbers (2 * i) 0 (omega (arith, c.loop-i-test.true))
          ∙ ap (λ l. get_or numbers (2 * i) 0 ∷ l) (drop_more numbers (2 * i + 1) 0 (omega (arith, c.loop-i-test.true))));
      rows = subst (λ l. AreRows c.args.n c.args.ends.now l) here rows;
      next = subst (λ l. IsNext c.args.n c.args.ends.now l arc) here is_next;
      refused = subst (λ l. IsArcRefused c.args.n l arc c.in-Err.fault) here c.in-Err.ensures.refused;
    }

pub loop-i-preserved : goal.loop-i-preserved
loop-i-preserved c =
    let before = c.loop-i.invariant.2 in
    let numbers = c.args.numbers.now in
    let i = c.loop-i.i in
    let old = c.args.arcs.now.items in
    let added : List Arc = before.0 in
    let arc : Arc = record { tail = c.row_of-row.result; head = get_or numbers (2 * i) 0; len = get_or numbers (2 * i + 1) 0 } in
    let step : arcs_words (added ++ arc ∷ []) ≡ take (2 * (i + 1)) numbers = words_step added numbers i arc before.2 (omega (arith, c.loop-i-test.true)) refl refl in
    let items : c.push_arc.new.arcs.items ≡ c.loop-i.arcs.items ++ arc ∷ [] = c.in_default.ensures.items in
    let size : length c.push_arc.new.arcs.items ≡ length c.loop-i.arcs.items + 1 = ap length items ∙ length-append c.loop-i.arcs.items (arc ∷ []) in
    let next = c.row_of-row.ensures.next in (
      record { some = next.some; within = next.within; begun = omega (arith, size, next.begun, c.len.ensures) },
      c.in_default.ensures.rows,
      (
        added ++ arc ∷ [],
        items ∙ ap (λ l. l ++ arc ∷ []) before.1 ∙ append_assoc old added (arc ∷ []),
        step,
        length-append added (arc ∷ []) ∙ ap (λ k. k + 1) before.3,
      ),
    )
