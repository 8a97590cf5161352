-- Numbers in their ranges, and such numbers as 64 bits can hold them.
use Rattle.std.proofs.Common.{⊎_elim, ◌≡◌, ℕ, ◌-◌, ◌^◌, ◌<◌, ◌≤◌, true, Option, Some, None, refl, sym, ◌∙◌, lit<, arith, tests}
use Rattle.std.proofs.lemmas.Bool.{cases_lt}
use Rattle.sp_word.specs.Word.{is_layout, max_dist, max_pred}
use Rattle.sp_word.proofs.Layouts.{by_layout}
use Rattle.sp_text.specs.declared.faults.Kind.{Kind}
use Rattle.sp_text.specs.declared.faults.Kind.TheVariants.{OutOfRange}
use Rattle.sp_text.specs.Numeral.{capped_value}
use Rattle.sp_files.specs.Spelling.{in_range}

-- The limits of each layout leave room.
pub maxima_small : (P : ℕ) → is_layout P ≡ true → (max_pred P < 2 ^ 64 - 1) × (max_dist P < 2 ^ 64 - 1)
maxima_small P layout = by_layout (λ (p : ℕ). (max_pred p < 2 ^ 64 - 1) × (max_dist p < 2 ^ 64 - 1)) P layout (lit< tt, lit< tt) (lit< tt, lit< tt) (lit< tt, lit< tt) (lit< tt, lit< tt)

-- A range, as a test and as facts.

out_is : (letter least most n : ℕ) (later : Option Kind) → most < n → in_range letter least most n later ≡ Some (OutOfRange letter)
out_is letter least most n later above = grind (arith, tests)

pub range_facts : (letter least most n : ℕ) (later : Option Kind) → in_range letter least most n later ≡ None → (least ≤ n) × (n ≤ most) × (later ≡ None)
range_facts letter least most n later h = grind (arith, tests)

pub range_ok : (letter least most n : ℕ) (later : Option Kind) → least ≤ n → n ≤ most → later ≡ None → in_range letter least most n later ≡ None
range_ok letter least most n later low high none = grind (arith, tests)

-- A number without a fault is as it was read, and one with a fault has the same.

pub small_same : (n : ℕ) → n < 2 ^ 64 - 1 → capped_value n ≡ n
small_same n small = omega arith

pub range_capped : (letter least most n : ℕ) (later other : Option Kind) → most < 2 ^ 64 - 1 → (n < 2 ^ 64 - 1 → later ≡ other) → in_range letter least most (capped_value n) later ≡ in_range letter least most n other
range_capped letter least most n later other room same = ⊎_elim
    (λ (small : n < 2 ^ 64 - 1). rw (small_same n small, same small) refl)
    (λ (large : 2 ^ 64 - 1 ≤ n). out_is letter least most (capped_value n) later (omega arith) ∙ sym (out_is letter least most n other (omega arith)))
    (cases_lt n (2 ^ 64 - 1))

-- The first line of a file: N up to a limit, and a number up to N.
pub first_capped : (letter least most n second : ℕ) → most < 2 ^ 64 - 1
    → in_range 78 1 most (capped_value n) (in_range letter least (capped_value n) (capped_value second) None) ≡ in_range 78 1 most n (in_range letter least n second None)
first_capped letter least most n second room = range_capped 78 1 most n _ _ room (λ small. rw (small_same n small) (range_capped letter least n second None None small (λ _. refl)))
