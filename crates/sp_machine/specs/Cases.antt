-- The condition that keeps an actor's next step possible.
use Rattle.std.specs.Prelude.{◌≡◌, ℕ, ◌+◌, ◌≤◌, true, Option, Some, None}
use Rattle.sp_word.specs.Word.{is_layout, max_dist, max_pred}
use Rattle.sp_machine.specs.declared.item.Item.{Item}
use Rattle.sp_machine.specs.declared.item.Item.TheVariants.{Offer, Read, Relax}

-- If the tail of a relaxation was read at a distance, the sum fits a word.
abbrev pub IsReady : {P : ℕ} → Option (Item P) → (loaded : Option ℕ) → Type 0
IsReady None loaded = Unit {0}
IsReady (Some (Offer v w)) loaded = Unit {0}
IsReady (Some (Read v)) loaded = Unit {0}
IsReady (Some (Relax u v l)) None = Unit {0}
IsReady {P = P} (Some (Relax u v l)) (Some d) = (is_layout P ≡ true) × (d + l ≤ max_dist P) × (u ≤ max_pred P)
