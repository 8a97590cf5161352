-- What holds of a text without a fault.
use Rattle.std.specs.Prelude.{◌≡◌, ◌≤◌, ℕ, List, [], length, slice_get, All, Some, None}
use Rattle.std.specs.List.{AllByRecursion}
use Rattle.sp_text.specs.declared.formats.Top.{Top}
use Rattle.sp_text.specs.declared.formats.Ranges.{Ranges}
use Rattle.sp_text.specs.Formats.{Format}
use Rattle.sp_text.specs.Text.{ItemLine, first_out, top, count}

-- The item has one of the forms, and its numbers are in their ranges.
pub record IsAllowed (format : Format) (ranges : Ranges) (problem : List ℕ) (item : ItemLine) : Type 0 where
  pub form : slice_get format.items item.kind ≡ Some item.form
  pub full : length item.numbers ≡ length item.form.fields
  pub in_range : first_out ranges problem item.form.fields item.numbers ≡ None

-- All numbers are in their ranges, there are as many items as are needed, and no group has more than its limit.
pub record IsAccepted (format : Format) (ranges : Ranges) (problem : List ℕ) (items : List ItemLine) : Type 0 where
  pub full : length problem ≡ length format.problem.fields
  pub in_range : first_out ranges [] format.problem.fields problem ≡ None
  pub allowed : All (IsAllowed format ranges problem) items
  pub bounded : (group : ℕ) (limit : Top) → AllByRecursion (λ form. form.group ≡ group → form.limit ≡ limit) format.items → count group items ≤ top ranges problem limit
  pub enough : top ranges problem format.needed ≤ count 0 items
