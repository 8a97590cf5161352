-- The ends of rows, by the arcs and by the index at which each row ends.
use Rattle.std.proofs.Common.{◌≡◌, ℕ, ◌+◌, ◌-◌, ◌<◌, ◌≤◌, ◌⊎◌, List, length, get_or, ap, ⊎_elim, ◌∙◌, arith}
use Rattle.std.specs.Prelude.{All}
use Rattle.std.proofs.lemmas.Bool.{cases_lt}
use Rattle.std.proofs.lemmas.List.Elements.{All-get_or}
use Rattle.sp_paths.specs.declared.arc.Arc.{Arc}
use Rattle.sp_paths.specs.Paths.{IsArc}
use Rattle.sp_graph.specs.Keys.{tail_of, keys_to, DoRise}
use Rattle.sp_graph.specs.Order.{IsNoGreater, IsInOrder}
use Rattle.sp_graph.specs.Index.{IsIndex}
use Rattle.sp_graph.proofs.Keys.{to-le-length}
use Rattle.sp_graph.proofs.KeyOrder.{to_before, to_behind}
use Rattle.sp_packed.specs.Ends.{AreEnds}
use Rattle.sp_packed.specs.Rows.{IsInRow}
use Rattle.sp_packed.proofs.RowSteps.{rising_to}

tail_le : (a b : Arc) → IsNoGreater a b → a.tail ≤ b.tail
tail_le a b h = grind arith

pub rise_in_order : (arcs : List Arc) → IsInOrder arcs → DoRise tail_of arcs
rise_in_order arcs h k d lt = tail_le (get_or arcs k d) (get_or arcs (k + 1) d) (h k d lt)

some_arc : Arc
some_arc = record { tail = 0; head = 0; len = 0 }

module _ (n : ℕ) (arcs : List Arc) (are : All (IsArc n) arcs) (order : IsInOrder arcs) where
  rise : DoRise tail_of arcs
  rise = rise_in_order arcs order

  to_none : keys_to tail_of arcs 0 ≡ 0
  to_none = ⊎_elim (λ some. absurd (none some)) (λ le. omega arith) (cases_lt 0 (keys_to tail_of arcs 0))
    where
      none : 0 < keys_to tail_of arcs 0 → ⊥
      none some =
          let here : 0 < length arcs = omega (arith, to-le-length tail_of arcs 0) in
          let le = to_before tail_of arcs rise 0 0 some_arc here some in
          let ge = (All-get_or (IsArc n) arcs 0 some_arc here are).0.0 in
          omega (arith, le, ge)

  to_rise : (k : ℕ) → keys_to tail_of arcs k ≤ keys_to tail_of arcs (k + 1)
  to_rise k = ⊎_elim (λ less. absurd (none less)) (λ le. le) (cases_lt (keys_to tail_of arcs (k + 1)) (keys_to tail_of arcs k))
    where
      none : keys_to tail_of arcs (k + 1) < keys_to tail_of arcs k → ⊥
      none less =
          let p = keys_to tail_of arcs (k + 1) in
          let here : p < length arcs = omega (arith, to-le-length tail_of arcs k) in
          let low = to_before tail_of arcs rise k p some_arc here less in
          let high = to_behind tail_of arcs rise (k + 1) p some_arc here (omega arith) in
          omega (arith, low, high)

  to_whole : keys_to tail_of arcs n ≡ length arcs
  to_whole = ⊎_elim (λ less. absurd (none less)) (λ le. omega (arith, to-le-length tail_of arcs n)) (cases_lt (keys_to tail_of arcs n) (length arcs))
    where
      none : keys_to tail_of arcs n < length arcs → ⊥
      none less =
          let p = keys_to tail_of arcs n in
          let high = to_behind tail_of arcs rise n p some_arc less (omega arith) in
          let low = (All-get_or (IsArc n) arcs p some_arc less are).0.1 in
          omega (arith, low, high)

  module _ (ends : List ℕ) where
    pub ends_of_index : IsIndex n arcs ends → AreEnds n (length arcs) ends
    ends_of_index h = record {
      size = h.size;
      rising = record { begin = h.each 0 (omega arith) ∙ to_none; rise = up };
      last = h.each n (omega arith) ∙ to_whole;
    }
      where
        up : (k : ℕ) → 1 ≤ k → k < length ends → (get_or ends (k - 1) 0 ≤ get_or ends k 0) × (get_or ends k 0 ≤ length arcs)
        up k ge lt =
            let before = h.each (k - 1) (omega (arith, h.size)) in
            let here = h.each k (omega (arith, h.size)) in
            let step = to_rise (k - 1) in
            let at = ap (keys_to tail_of arcs) (let e : k - 1 + 1 ≡ k = omega arith in e) in
            (omega (arith, before, here, step, at), omega (arith, here, to-le-length tail_of arcs k))

    pub rows_of_index : IsIndex n arcs ends → (k : ℕ) (d : Arc) → k < length arcs → IsInRow ends k (get_or arcs k d).tail
    rows_of_index h k d lt =
        let t = (get_or arcs k d).tail in
        let vertex = (All-get_or (IsArc n) arcs k d lt are).0 in
        let below = h.each (t - 1) (omega (arith, vertex)) in
        let to = h.each t vertex.1 in (
          ⊎_elim (λ less. absurd (let le = to_before tail_of arcs rise (t - 1) k d lt less in omega (arith, le, vertex.0))) (λ le. omega (arith, le, below))
              (cases_lt k (keys_to tail_of arcs (t - 1))),
          ⊎_elim (λ less. omega (arith, less, to)) (λ le. absurd (let lt' = to_behind tail_of arcs rise t k d lt le in omega (arith, lt')))
              (cases_lt k (keys_to tail_of arcs t)),
        )

    pub index_of_rows : AreEnds n (length arcs) ends → ((k : ℕ) (d : Arc) → k < length arcs → IsInRow ends k (get_or arcs k d).tail) → IsIndex n arcs ends
    index_of_rows h rows = record { size = h.size; each = each }
      where
        each : (v : ℕ) → v ≤ n → get_or ends v 0 ≡ keys_to tail_of arcs v
        each v le =
            ⊎_elim (λ less. absurd (early less)) (λ up. ⊎_elim (λ less. absurd (late less)) (λ down. omega (arith, up, down)) (cases_lt (keys_to tail_of arcs v) (get_or ends v 0)))
            (cases_lt (get_or ends v 0) (keys_to tail_of arcs v))
          where
            early : get_or ends v 0 < keys_to tail_of arcs v → ⊥
            early less =
                let p = get_or ends v 0 in
                let here : p < length arcs = omega (arith, to-le-length tail_of arcs v) in
                let low = to_before tail_of arcs rise v p some_arc here less in
                let row = rows p some_arc here in
                let up = rising_to (length arcs) ends h.rising (get_or arcs p some_arc).tail v low (omega (arith, h.size)) in
                omega (arith, row.1, up)

            late : keys_to tail_of arcs v < get_or ends v 0 → ⊥
            late less =
                let p = keys_to tail_of arcs v in
                let most = rising_to (length arcs) ends h.rising v n le (omega (arith, h.size)) in
                let here : p < length arcs = omega (arith, most, h.last) in
                let high = to_behind tail_of arcs rise v p some_arc here (omega arith) in
                let vertex = (All-get_or (IsArc n) arcs p some_arc here are).0 in
                let row = rows p some_arc here in
                let up = rising_to (length arcs) ends h.rising v ((get_or arcs p some_arc).tail - 1) (omega (arith, high)) (omega (arith, h.size, vertex.1)) in
                omega (arith, row.0, up)
