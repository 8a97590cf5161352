-- What a caller has seen after further calls.
use Rattle.std.specs.Prelude.{◌≡◌, ℕ}
use mathlib.Core.List.{IsPrefix}
use Rattle.sp_word.specs.Word.{Word}
use Rattle.sp_offer.specs.Order.{IsNoMore, IsKnownWord}
use Rattle.sp_offer.specs.Story.{Knowledge, known_table}

-- The caller is of the same table, its history begins with what it had seen, and its own calls are still its own. It knows no
-- less about any word, and what it knows stays lawful.
pub record IsLater (law : ℕ → Word → Type 0) (before after : Knowledge) : Type 0 where
  pub table : after.table ≡ before.table
  pub begins : IsPrefix before.story.seen after.story.seen
  pub own : IsPrefix before.story.own after.story.own
  pub falls : (v : ℕ) → IsNoMore (known_table after.story v) (known_table before.story v)
  pub stays : ((v : ℕ) → IsKnownWord law v (known_table before.story v)) → (v : ℕ) → IsKnownWord law v (known_table after.story v)
