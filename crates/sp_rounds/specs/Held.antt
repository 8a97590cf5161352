-- What contracts see of a claimer: the table to which it belongs, and its grants.
use Rattle.std.specs.Prelude.{List}
use Rattle.atomic_table.specs.Seated.{TableId}
use Rattle.sp_rounds.specs.declared.grants.Grant.{Grant}

-- A claimer belongs to this table and has these grants.
pub record Held : Type 0 where
  pub table : TableId
  pub grants : List Grant
