-- What a caller has seen after further calls.
use Rattle.std.specs.Prelude.{◌≡◌, ℕ}
use mathlib.Core.List.{IsPrefix}
use Rattle.sp_word.specs.Word.{Word}
use Rattle.sp_offer.specs.Order.{IsNoMore, IsKnownWord}
use Rattle.sp_offer.specs.Story.{Knowledge, known_table, own_calls, IsStory}

-- The caller's history is legal, each of its calls occurs in it once, and every word that it knows is unreached or
-- lawful.
pub record HasLegalHistory (law : ℕ → Word → Type 0) (caller : Knowledge) : Type 0 where
  pub is_story : IsStory caller.story
  pub words : (v : ℕ) → IsKnownWord law v (known_table caller.story v)

-- The caller belongs to the same table, its history begins with what it had seen, and the calls that were its own are
-- still its own. No known word has risen, all known words stay lawful, and the history stays legal.
pub record IsLater (law : ℕ → Word → Type 0) (before after : Knowledge) : Type 0 where
  pub table : after.table ≡ before.table
  pub begins : IsPrefix before.story.seen after.story.seen
  pub own : IsPrefix (own_calls before.story) (own_calls after.story)
  pub falls : (v : ℕ) → IsNoMore (known_table after.story v) (known_table before.story v)
  pub stays : ((v : ℕ) → IsKnownWord law v (known_table before.story v)) → (v : ℕ) → IsKnownWord law v (known_table after.story v)
  pub legal : IsStory before.story → IsStory after.story
