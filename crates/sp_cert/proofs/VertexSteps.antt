-- The faults of all vertices, one by one.
use Rattle.std.proofs.Common.{ℕ, ◌+◌, ◌-◌, ◌<◌, List, length, Option, sym, ◌∙◌, subst, refl, arith}
use Rattle.std.specs.Prelude.{Contains, slice_index_or}
use Rattle.std.proofs.lemmas.List.Elements.{All-contains}
use Rattle.std.proofs.lemmas.List.FromFn.{get_or-range_with_len, length-range_with_len}
use Rattle.rayon.specs.Numbers.{nat_range}
use Rattle.rayon.proofs.ToStd.{nat_range-All}
use Rattle.sp_paths.specs.Paths.{IsVertex}
use Rattle.sp_cert.specs.declared.rule.Rule.{Rule}
use Rattle.sp_cert.specs.declared.fault.BrokenRule.{BrokenRule}
use Rattle.sp_cert.specs.Faults.{IsFirstOf, FaultAt, FaultOfVertex}
use Rattle.sp_cert.proofs.FirstSteps.{OfAny, first_same}

-- the numbers from 1 to n
abbrev pub numbers : ℕ → List ℕ
numbers n = nat_range 1 (n + 1)

pub numbers_are : (n : ℕ) (k d : ℕ) → k < length (numbers n) → IsVertex n (slice_index_or (numbers n) k d)
numbers_are n = nat_range-All (IsVertex n) 1 (n + 1) (λ i lo hi. (lo, omega arith))

among_numbers : (n x : ℕ) → IsVertex n x → Contains (numbers n) x
among_numbers n x h =
    let size = length-range_with_len 1 ((n + 1) - 1) in
    (x - 1, omega (arith, h, size), get_or-range_with_len 1 ((n + 1) - 1) (x - 1) x (omega (arith, h)) ∙ omega (arith, h))

module _ (n : ℕ) (P : ℕ → Rule → Type 0) where
  there : (v : ℕ) (rule : Rule) → OfAny (FaultAt P) (numbers n) v rule → FaultOfVertex n P v rule
  there v rule (x, c, (same, b)) =
      let in' : IsVertex n x = All-contains (IsVertex n) (numbers n) x (numbers_are n) c in
      (subst (IsVertex n) (sym same) in', subst (λ y. P y rule) (sym same) b)

  back : (v : ℕ) (rule : Rule) → FaultOfVertex n P v rule → OfAny (FaultAt P) (numbers n) v rule
  back v rule (in', b) = (v, among_numbers n v in', (refl, b))

  pub first_of_numbers : (r : Option BrokenRule) → IsFirstOf (OfAny (FaultAt P) (numbers n)) r → IsFirstOf (FaultOfVertex n P) r
  first_of_numbers r h = first_same (OfAny (FaultAt P) (numbers n)) (FaultOfVertex n P) there back r h
