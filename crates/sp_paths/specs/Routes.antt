-- Routes: the vertices on the shortest walk that takes, read from its end, the smallest vertex each time.
use Rattle.std.specs.Prelude.{◌≡◌, ◌≢◌, ℕ, ◌≤◌, List, [], ◌∷◌, length}
use Rattle.sp_word.specs.Word.{Word}
use Rattle.sp_paths.specs.Paths.{Graph, IsLeast, IsTreePair, IsTreeWord, word_at}

-- In the tree from s, the vertex before v is u.
abbrev pub IsBefore : Graph → (s u v : ℕ) → Type 0
IsBefore g s u v = (v ≢ s) × (d : ℕ) × IsTreePair g s v d u

-- Each vertex of the list has the one before it, the first has u, and the last of all is t.
abbrev pub GoesOn : Graph → (s u : ℕ) → List ℕ → (t : ℕ) → Type 0
GoesOn g s u [] t = u ≡ t
GoesOn g s u (v ∷ rest) t = IsBefore g s u v × GoesOn g s v rest t

-- The route from s to t: it begins at s, and ends at t.
abbrev pub IsRoute : Graph → (s t : ℕ) → List ℕ → Type 0
IsRoute g s t [] = ⊥
IsRoute g s t (v ∷ rest) = (v ≡ s) × GoesOn g s v rest t

-- The words lead back from t: there is a word for each vertex, t has a least length, and each vertex up to it has its word in the tree.
pub record LeadBack (g : Graph) (s t : ℕ) (words : List Word) : Type 0 where
  pub size : length words ≡ g.n
  pub dist : ℕ
  pub least : IsLeast g s t dist
  pub final : (v d : ℕ) → IsLeast g s v d → d ≤ dist → IsTreeWord g s v (word_at words v)
