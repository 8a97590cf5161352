-- The pieces that came of a device and weren't taken yet.
use Rattle.std.proofs.Common.{◌≡◌, ◌+◌, ◌≤◌, ℕ, List, [], ◌∷◌, ◌++◌, length, Option, sym, ap, subst, arith}
use Rattle.std.specs.Arc.{arc_value}
use Rattle.sp_parts.specs.declared.buffer_pool.PendingPiece.{PendingPiece}
use Rattle.sp_parts.specs.Parts.{IsAt, IsNext}
use Rattle.sp_parts.specs.Held.{AreHeld}

-- One more piece came.
pub held_more : (source : Option (List ℕ)) (from : ℕ) (fs : List PendingPiece) (f : PendingPiece) (to : ℕ) → AreHeld source from fs to → IsAt source to (arc_value f.group) → AreHeld source from (fs ++ f ∷ []) (to + length (arc_value f.group))
held_more source from [] f to h there = (subst (λ (n : ℕ). IsAt source n (arc_value f.group)) (sym h) there, ap (λ (n : ℕ). n + length (arc_value f.group)) h)
held_more source from (x ∷ fs) f to h there = (h.0, held_more source (from + length (arc_value x.group)) fs f to h.1 there)

-- They end behind the place where they begin.
pub held_order : (source : Option (List ℕ)) (from : ℕ) (fs : List PendingPiece) (to : ℕ) → AreHeld source from fs to → from ≤ to
held_order source from [] to h = omega (arith, h)
held_order source from (x ∷ fs) to h = omega (arith, held_order source (from + length (arc_value x.group)) fs to h.1)

-- The first of them comes next.
pub next_held : (source : Option (List ℕ)) (from : ℕ) (f : PendingPiece) (fs : List PendingPiece) (to : ℕ) (bytes : List ℕ) → AreHeld source from (f ∷ fs) to → IsAt source from bytes → length bytes ≡ length (arc_value f.group) → IsNext source to from bytes
next_held source from f fs to bytes h there same = record {
  place = there;
  within = omega (arith, same, held_order source (from + length (arc_value f.group)) fs to h.1);
}
