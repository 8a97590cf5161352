-- The limits on the number of vertices and on distances, and the first item of a list that lacks a property.
use Rattle.std.specs.Prelude.{◌≡◌, ◌<◌, ◌≤◌, ℕ, List, nat_le, if◌then◌else◌, slice_get, Some}
use Rattle.sp_word.specs.Word.{max_dist}

-- A graph may have this number of vertices.
abbrev pub IsCount : (n : ℕ) → Type 0
IsCount n = (1 ≤ n) × (n ≤ 4294967294)

-- This is the number of bits that name one of n vertices in a word: the least of 20, 24, 28 and 32 that can.
abbrev pub pred_bits : (n : ℕ) → ℕ
pred_bits n = if nat_le n 1048574 then 20 else (if nat_le n 16777214 then 24 else (if nat_le n 268435454 then 28 else 32))

-- This is the greatest distance in a graph of n vertices.
abbrev pub reach : (n : ℕ) → ℕ
reach n = max_dist (pred_bits n)

-- The item at this index lacks the property, and all items before it have it.
pub record IsFirstWithout {A : Type 0} (P : A → Type 0) (items : List A) (place : ℕ) : Type 0 where
  pub item : A
  pub there : slice_get items place ≡ Some item
  pub lacks : P item → ⊥
  pub before : (k : ℕ) (other : A) → k < place → slice_get items k ≡ Some other → P other
