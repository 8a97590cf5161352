-- A word is unreached, or a pair of a distance and a predecessor.
use Rattle.std.specs.Prelude.{◌≡◌, ℕ, ◌+◌, ◌-◌, ◌*◌, ◌/◌, ◌%◌, ◌^◌, ◌<◌, ◌≤◌, ◌⊎◌, ◌==◌, ◌||◌, ◌&&◌, Bool, true, false, if◌then◌else◌, nat_lt, Option, Some, None}

-- The word of a vertex: unreached, or a pair of a distance and a predecessor.
pub data Word : Type 0 where
  Unreached : Word
  Pair : (dist pred : ℕ) → Word

-- ## The order

-- Pairs are ordered by distance, then by predecessor; unreached is greater than every pair.
abbrev pub IsBelow : Word → Word → Type 0
IsBelow Unreached b = ⊥
IsBelow (Pair d p) Unreached = Unit {0}
IsBelow (Pair d p) (Pair e q) = (d < e) ⊎ ((d ≡ e) × (p < q))

-- This is the same order as a Boolean test.
abbrev pub is_below : Word → Word → Bool
is_below Unreached b = false
is_below (Pair d p) Unreached = true
is_below (Pair d p) (Pair e q) = nat_lt d e || ((d == e) && nat_lt p q)

-- The first word has the smaller distance; unreached counts as farther than every pair.
abbrev pub is_nearer : Word → Word → Bool
is_nearer Unreached b = false
is_nearer (Pair d p) Unreached = true
is_nearer (Pair d p) (Pair e q) = nat_lt d e

-- This tests whether two words are equal.
abbrev pub is_same : Word → Word → Bool
is_same Unreached Unreached = true
is_same Unreached (Pair d p) = false
is_same (Pair d p) Unreached = false
is_same (Pair d p) (Pair e q) = (d == e) && (p == q)

-- This is the lesser of two words.
abbrev pub lesser : Word → Word → Word
lesser a b = if is_below b a then b else a

-- The word is a pair.
abbrev pub IsPair : Word → Type 0
IsPair Unreached = ⊥
IsPair (Pair d p) = Unit {0}

-- The distance of a pair; an unreached word has none.
abbrev pub dist_of : Word → Option ℕ
dist_of Unreached = None
dist_of (Pair d p) = Some d

-- The predecessor of a pair; an unreached word has none.
abbrev pub pred_of : Word → Option ℕ
pred_of Unreached = None
pred_of (Pair d p) = Some p

-- ## The layout, with P bits for the predecessor

-- There are four layouts, with 20, 24, 28 or 32 bits for the predecessor.
abbrev pub is_layout : ℕ → Bool
is_layout P = (P == 20) || (P == 24) || (P == 28) || (P == 32)

-- The greatest distance that fits in a word.
abbrev pub max_dist : ℕ → ℕ
max_dist P = 2 ^ (64 - P) - 2

-- The greatest predecessor that fits in a word.
abbrev pub max_pred : ℕ → ℕ
max_pred P = 2 ^ P - 2

-- The word can be packed with this layout.
abbrev pub Fits : ℕ → Word → Type 0
Fits P Unreached = Unit {0}
Fits P (Pair d p) = (d ≤ max_dist P) × (p ≤ max_pred P)

-- The distance is in the bits above the predecessor; unreached is all ones.
abbrev pub bits_of : ℕ → Word → ℕ
bits_of P Unreached = 18446744073709551615
bits_of P (Pair d p) = d * 2 ^ P + p

-- The word with these bits.
abbrev pub word_of : ℕ → ℕ → Word
word_of P bits = if bits == 18446744073709551615 then Unreached else Pair (bits / 2 ^ P) (bits % 2 ^ P)

-- The bits are those of a word: they are all ones, or neither half is all ones.
abbrev pub is_word : ℕ → ℕ → Bool
is_word P bits = (bits == 18446744073709551615) || (nat_lt (bits / 2 ^ P) (2 ^ (64 - P) - 1) && nat_lt (bits % 2 ^ P) (2 ^ P - 1))
