use Rattle.std.proofs.Common.{◌≡◌, ◌+◌, ◌-◌, ◌*◌, ◌^◌, ◌<◌, ◌∷◌, [], ◌++◌, List, length, get_or, take, refl, sym, ap, subst, ◌∙◌, arith, append_assoc, length-append}
use Rattle.std.proofs.lemmas.List.{get_or_push}
use Rattle.sp_paths.specs.declared.arc.Arc.{Arc}
use Rattle.sp_packed.specs.Packed.{arcs_words}
use Rattle.sp_packed.specs.Rows.{IsInRow, AreRows, IsNext, MayStand, arc_key, IsLastKey}
use Rattle.sp_packed.proofs.RowSteps.{words_step, rows_more}
use Rattle.sp_packed.proofs.rows.push_right.Goals as goal

pub loop-i-preserved : goal.loop-i-preserved
loop-i-preserved c =
    let before = c.loop-i.invariant.2 in
    let numbers = c.args.numbers.now in
    let i = c.loop-i.i in
    let old = c.args.arcs.now.items in
    let added : List Arc = before.0 in
    let here : List Arc = c.loop-i.arcs.items in
    let arc : Arc = record { tail = c.row_by_end-row.result; head = get_or numbers (2 * i) 0; len = get_or numbers (2 * i + 1) 0 } in
    let step : arcs_words (added ++ arc ∷ []) ≡ take (2 * (i + 1)) numbers = words_step added numbers i arc before.2 (omega (arith, c.loop-i-test.true)) refl refl in
    let items : c.push_reserved.new.self.items ≡ here ++ arc ∷ [] = c.push_reserved.ensures.items in
    let size : length c.push_reserved.new.self.items ≡ length here + 1 = ap length items ∙ length-append here (arc ∷ []) in
    let next = c.row_by_end-row.ensures.next in
    let count : c.len.result ≡ length here = omega (arith, c.len.ensures) in
    let is_next : IsNext c.args.n c.args.ends.now here arc = record { some = next.some; within = next.within; row = subst (λ k. IsInRow c.args.ends.now k c.row_by_end-row.result) count c.row_by_end-row.ensures.row; fits = omega (arith, c.type_inv.numbers (2 * i + 1)) } in
    let may : MayStand c.args.n here arc = subst (λ l. MayStand c.args.n l arc) c.deref-in-loop-i.ensures.value (c.may_stand_by_key.ensures c.if-not-may_stand_by_key.false) in
    let rows : AreRows c.args.n c.args.ends.now (here ++ arc ∷ []) = rows_more c.args.n c.args.ends.now here arc c.loop-i.invariant.1 is_next may in
    let key : IsLastKey c.push_reserved.new.self.items c.key_of-key.result
    = λ d ge.
    let last : get_or c.push_reserved.new.self.items (length c.push_reserved.new.self.items - 1) d ≡ arc
    = ap (λ l. get_or l (length c.push_reserved.new.self.items - 1) d) items ∙ get_or_push here arc d (length c.push_reserved.new.self.items - 1) (omega (arith, size)) in
    (c.key_of-key.ensures.key ∙ ap arc_key (sym last), subst (λ (a : Arc). a.head < 2 ^ 32) (sym last) c.key_of-key.ensures.fits) in (
      record { some = next.some; within = next.within; begun = omega (arith, size, next.begun, c.len.ensures) },
      subst (λ l. AreRows c.args.n c.args.ends.now l) (sym items) rows,
      (
        added ++ arc ∷ [],
        items ∙ ap (λ l. l ++ arc ∷ []) before.1 ∙ append_assoc old added (arc ∷ []),
        step,
        length-append added (arc ∷ []) ∙ ap (λ k. k + 1) before.3,
      ),
      refl,
      key,
      omega (arith, c.push_reserved.ensures.len, c.push_reserved.ensures.capacity, c.loop-i.invariant.5),
    )
