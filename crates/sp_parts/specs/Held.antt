-- The pieces that came of a device and weren't taken yet.
use Rattle.std.specs.Prelude.{◌≡◌, ℕ, ◌+◌, List, [], ◌∷◌, length, Option}
use Rattle.std.specs.Arc.{arc_value}
use Rattle.sp_parts.specs.declared.buffer_pool.PendingPiece.{PendingPiece}
use Rattle.sp_parts.specs.Parts.{IsAt}

-- These pieces of a text follow one another, from one position to another.
abbrev pub AreHeld : (source : Option (List ℕ)) → (from : ℕ) → List PendingPiece → (to : ℕ) → Type 0
AreHeld source from [] to = from ≡ to
AreHeld source from (f ∷ fs) to = IsAt source from (arc_value f.group) × AreHeld source (from + length (arc_value f.group)) fs to
