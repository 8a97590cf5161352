-- Each step keeps the rule.
use Rattle.std.proofs.Common.{◌≡◌, ℕ, ◌<◌, max, List, ◌∷◌, set, get_or-set_same, get_or-set_other, refl, sym, ap, ◌∙◌, ⊎_elim, lt_of_not-le, arith, length-set}
use Rattle.std.specs.Prelude.{slice_index}
use mathlib.Core.Option.{some, none}
use mathlib.Core.Logic.{dite}
use native.Mathlib.Decide.{dec_le, ℕ_discrete}
use lib.ListN.{get_elem?}
use Rattle.atomic_table.specs.Table.{State, step, keeps, Allows, Splits, Joins}
use Rattle.sp_rounds.specs.declared.grants.GrantView.{GrantView}
use Rattle.sp_rounds.specs.Grants.{grant, nothing, both, times_in_all, Kept, Claimed, Checked}
use Rattle.sp_rounds.proofs.GrantCounts.{times-append, all-append, all-set, one_of-all, hits, hit_or_miss, hits_itself, other_slot, grows, stays}

-- one more grant, of a round that is above the word
pub kept_grant : (n : ℕ) (words : List ℕ) (views : List GrantView) (id slot round : ℕ) (v : GrantView) → slot < n → slice_index words slot < round → get_elem? views id ≡ some v
    → Kept n words views → Kept n (set words slot (max (slice_index words slot) round)) (set views id record { grants = grant slot round ∷ v.grants })
kept_grant n words views id slot round v inside above at kept =
    let w : GrantView = record { grants = grant slot round ∷ v.grants } in
    let m : ℕ = max (slice_index words slot) round in
    let is_round : m ≡ round = omega arith in
    let here : slice_index (set words slot m) slot ≡ m = get_or-set_same words slot m 0 (omega arith) in (
      length-set {A = ℕ} words slot m ∙ kept.0,
      (λ s r.
          let t = all-set s r views id v w at in
          let k = kept.1 s r in
          let g = grows words slot m s (omega arith) in
          ⊎_elim
          (λ (h : (slot ≡ s) × (round ≡ r) × (hits s r slot round ≡ 1)).
          let e = h.0 in
          let there : slice_index (set words slot m) s ≡ m = ap (slice_index (set words slot m)) (sym e) ∙ here in
          let was : slice_index words s ≡ slice_index words slot = ap (slice_index words) (sym e) in
          let none : times_in_all s r views ≡ 0 = k.2 (omega arith) in
          (omega arith, (λ z. absurd (omega arith)), (λ z. absurd (omega arith))))
          (λ (h : hits s r slot round ≡ 0).
          (omega arith, (λ z. let none = k.1 z in omega arith), (λ z. let none = k.2 (omega arith) in omega arith)))
          (hit_or_miss s r slot round)),
      (λ s positive.
          dite (ℕ_discrete s slot)
          (λ (e : s ≡ slot).
          let word : slice_index (set words slot m) s ≡ round = ap (slice_index (set words slot m)) e ∙ here ∙ is_round in
          let one : times_in_all slot round (set views id w) ≡ 1 =
          let t = all-set slot round views id v w at in
          let hit : hits slot round slot round ≡ 1 = hits_itself slot round in
          let none = (kept.1 slot round).2 above in
          omega arith in
          ap (λ (x : ℕ). times_in_all x (slice_index (set words slot m) s) (set views id w)) e ∙ ap (λ (r : ℕ). times_in_all slot r (set views id w)) word ∙ one)
          (λ (apart : s ≡ slot → ⊥).
          let word : slice_index (set words slot m) s ≡ slice_index words s = get_or-set_other words slot s m 0 apart in
          let t = all-set s (slice_index words s) views id v w at in
          let miss : hits s (slice_index words s) slot round ≡ 0 = other_slot s (slice_index words s) slot round (λ e. apart (sym e)) in
          let was = kept.2 s (omega arith) in
          let one : times_in_all s (slice_index words s) (set views id w) ≡ 1 = omega arith in
          ap (λ (r : ℕ). times_in_all s r (set views id w)) word ∙ one)),
    )

-- a step that leaves all words and all grants as they were
pub kept_refusal : (n : ℕ) (words : List ℕ) (views : List GrantView) (id slot m : ℕ) (v : GrantView) → m ≡ slice_index words slot → get_elem? views id ≡ some v
    → Kept n words views → Kept n (set words slot m) (set views id v)
kept_refusal n words views id slot m v same_word at kept = (
  length-set {A = ℕ} words slot m ∙ kept.0,
  (λ s r.
      let same = all-set s r views id v v at in
      let k = kept.1 s r in
      let word = stays words slot m s same_word in
      (omega arith, (λ z. let none = k.1 z in omega arith), (λ z. let none = k.2 (omega arith) in omega arith))),
  (λ s positive.
      let word = stays words slot m s same_word in
      let same = all-set s (slice_index words s) views id v v at in
      let was = kept.2 s (omega arith) in
      let one : times_in_all s (slice_index words s) (set views id v) ≡ 1 = omega arith in
      ap (λ (r : ℕ). times_in_all s r (set views id v)) word ∙ one),
)

pub claims : (n slots id slot round : ℕ) (v : GrantView) (carried : List (ℕ × Unit)) → slot < n
    → Allows (λ (s : State Unit GrantView). Kept n s.words s.views) slots id (v, carried) slot (λ found. max found round) (Claimed (step slots slot round 0 none) (v, carried))
claims n slots id slot round v carried inside s kept homes at fits =
    dite (dec_le round (slice_index s.words slot))
    (λ below. (
      v,
      keeps,
      tt,
      kept_refusal n s.words s.views id slot (max (slice_index s.words slot) round) v (omega arith) at kept,
      (refl, (λ h. absurd (omega arith)), (λ _. refl)),
    ))
    (λ no.
    let above : slice_index s.words slot < round = lt_of_not-le no in
    let fresh = (kept.1 slot round).2 above in
    let part = one_of-all slot round s.views id v at in (
      record { grants = grant slot round ∷ v.grants },
      keeps,
      tt,
      kept_grant n s.words s.views id slot round v inside above at kept,
      (refl, (λ _. (refl, omega arith)), (λ h. absurd (omega arith))),
    ))

pub checks : (n slots id : ℕ) (v : GrantView) (carried : List (ℕ × Unit))
    → Allows (λ (s : State Unit GrantView). Kept n s.words s.views) slots id (v, carried) 0 (λ found. found) (Checked (step slots 0 0 0 none) (v, carried))
checks n slots id v carried s kept homes at fits = (
  v,
  keeps,
  tt,
  kept_refusal n s.words s.views id 0 (slice_index s.words 0) v (omega arith) at kept,
  (refl, (λ slot round. let k = kept.1 slot round in let part = one_of-all slot round s.views id v at in omega arith)),
)

pub splits : (n id : ℕ) (v : GrantView) → Splits (λ (s : State Unit GrantView). Kept n s.words s.views) id v v nothing
splits n id v s kept at = (
  kept.0,
  (λ slot round.
      let same = all-set slot round s.views id v v at in
      let more = all-append slot round (set s.views id v) nothing in
      let k = kept.1 slot round in
      (omega arith, (λ z. let none = k.1 z in omega arith), (λ z. let none = k.2 z in omega arith))),
  (λ slot positive.
      let round : ℕ = slice_index s.words slot in
      let same = all-set slot round s.views id v v at in
      let more = all-append slot round (set s.views id v) nothing in
      let was = kept.2 slot positive in
      omega arith),
)

pub joins : (n id other : ℕ) (v w : GrantView) → Joins (λ (s : State Unit GrantView). Kept n s.words s.views) id v other w (both v w) nothing
joins n id other v w s kept at apart there = (
  kept.0,
  (λ slot round.
      let first = all-set slot round s.views id v (both v w) at in
      let second = all-set slot round (set s.views id (both v w)) other w nothing there in
      let sum = times-append slot round v.grants w.grants in
      let k = kept.1 slot round in
      (omega arith, (λ z. let none = k.1 z in omega arith), (λ z. let none = k.2 z in omega arith))),
  (λ slot positive.
      let round : ℕ = slice_index s.words slot in
      let first = all-set slot round s.views id v (both v w) at in
      let second = all-set slot round (set s.views id (both v w)) other w nothing there in
      let sum = times-append slot round v.grants w.grants in
      let was = kept.2 slot positive in
      omega arith),
)
