use Rattle.std.proofs.Common.{◌<◌, ◌^◌, ℕ, List, All, ◌++◌}
use Rattle.clap.specs.Matches.{values_left}
use Rattle.sp_options.specs.Numbers.{SpellNumbers}
use Rattle.sp_options.proofs.given.numbers_of.Given as goal

abbrev pub invariant-loop-value : goal.invariant-loop-value
invariant-loop-value l = record {
  can : (goal.iterator-loop-value).can_next l.value-iterator;
  finite : (goal.iterator-loop-value).is_finite l.value-iterator;
  read : (more : List ℕ) → SpellNumbers (values_left l.value-iterator) more → SpellNumbers (values_left l.fn.values) (l.list.items ++ more);
  refused : ((more : List ℕ) → SpellNumbers (values_left l.value-iterator) more → All (λ v. v < 2 ^ 32) more → ⊥)
      → (all : List ℕ) → SpellNumbers (values_left l.fn.values) all → All (λ v. v < 2 ^ 32) all → ⊥;
}
