-- The order of words, and what a law allows.
use Rattle.std.specs.Prelude.{◌≡◌, ℕ, ◌<◌, ◌≤◌, ◌⊎◌}
use Rattle.sp_word.specs.Word.{Word, Unreached, Pair, IsPair, Fits}

-- Pairs are ordered by distance, then by predecessor; every word is at most unreached.
abbrev pub IsNoMore : Word → Word → Type 0
IsNoMore a Unreached = Unit {0}
IsNoMore Unreached (Pair e q) = ⊥
IsNoMore (Pair d p) (Pair e q) = (d < e) ⊎ ((d ≡ e) × (p ≤ q))

-- These are the words that a table of the layout P takes: pairs that fit, and that its law allows for the vertex.
abbrev pub lawful : ℕ → (ℕ → Word → Type 0) → ℕ → Word → Type 0
lawful P allows v w = IsPair w × Fits P w × allows v w

-- The word is unreached, or one of those words.
abbrev pub IsKnownWord : (ℕ → Word → Type 0) → ℕ → Word → Type 0
IsKnownWord law v w = (w ≡ Unreached) ⊎ law v w
