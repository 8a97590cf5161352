-- Marks for the numbers among the receipts.
use Rattle.std.proofs.Common.{◌≡◌, ℕ, zero, suc, ◌<◌, ◌≤◌, List, [], ◌∷◌, length, set, get_or, get_or-set_same, get_or-set_other, refl, sym, ap, ◌∙◌, arith, Bool, true, false, eq-eqb, ne_eqb, length-set}
use Rattle.std.specs.Prelude.{◌==◌, if◌then◌else◌, replicate}
use mathlib.Core.Logic.{dite}
use native.Mathlib.Decide.{ℕ_discrete}
use Rattle.sp_rounds.specs.Left.{tally, IsMarked}
use Rattle.sp_rounds.specs.Work.{AllBelow}

-- the rest of the receipts is still to be marked
pub record Marking (n : ℕ) (all rest : List ℕ) (marks : List Bool) : Type 0 where
  pub len : length marks ≡ n
  pub below : AllBelow n rest
  pub part : (k : ℕ) → tally k rest ≤ tally k all
  pub on : (k : ℕ) → k < n → get_or marks k false ≡ true → 0 < tally k all
  pub off : (k : ℕ) → k < n → get_or marks k false ≡ false → tally k all ≡ tally k rest

abbrev one_at : ℕ → ℕ → ℕ
one_at r k = (if (r == k) then 1 else 0)

pub marking_more : (n r : ℕ) (all rest : List ℕ) (marks : List Bool) → Marking n all (r ∷ rest) marks → Marking n all rest (set marks r true)
marking_more n r all rest marks m = record {
  len = length-set {A = Bool} marks r true ∙ m.len;
  below = m.below.1;
  part = λ k. let p = m.part k in omega arith;
  on = λ k inside is.
      dite (ℕ_discrete r k)
      (λ e. let p = m.part k in let one : one_at r k ≡ 1 = rw (eq-eqb r k e) in omega arith)
      (λ ne. m.on k inside (sym (get_or-set_other marks r k true false (λ e. ne (sym e))) ∙ is));
  off = λ k inside is.
      dite (ℕ_discrete r k)
      (λ e.
      let h : r < length marks = let l = m.len in let b = m.below.0 in omega arith in
      let here : get_or (set marks r true) k false ≡ true = ap (λ (i : ℕ). get_or (set marks r true) i false) (sym e) ∙ get_or-set_same marks r true false h in
      absurd (cc))
      (λ ne.
      let p = m.off k inside (sym (get_or-set_other marks r k true false (λ e. ne (sym e))) ∙ is) in
      let none : one_at r k ≡ 0 = rw (ne_eqb r k ne) in
      omega arith);
}

none_set : (n k : ℕ) → get_or (replicate n false) k false ≡ false
none_set zero k = refl
none_set (suc n) zero = refl
none_set (suc n) (suc k) = none_set n k

length-none : (n : ℕ) → length (replicate n false) ≡ n
length-none zero = refl
length-none (suc n) = let e = length-none n in omega arith

pub marking_none : (n : ℕ) (all : List ℕ) (marks : List Bool) → marks ≡ replicate n false → AllBelow n all → Marking n all all marks
marking_none n all marks clean below = record {
  len = ap (λ (l : List Bool). length l) clean ∙ length-none n;
  below = below;
  part = λ k. omega arith;
  on = λ k inside is. absurd (let f : get_or marks k false ≡ false = ap (λ (l : List Bool). get_or l k false) clean ∙ none_set n k in cc);
  off = λ k inside is. refl;
}

pub marked : (n : ℕ) (all rest : List ℕ) (marks : List Bool) → rest ≡ [] → Marking n all rest marks → IsMarked n all marks
marked n all rest marks e m = λ k inside. (m.on k inside, λ is. m.off k inside is ∙ ap (tally k) e)
