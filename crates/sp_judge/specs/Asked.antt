-- What a copy of the words shows of what is asked.
use Rattle.std.specs.Prelude.{◌≡◌, ℕ, ◌≤◌, List, All, Contains, Option, Some, None, length, true}
use Rattle.sp_word.specs.Word.{Word, Pair, is_layout, max_dist, max_pred}
use Rattle.sp_paths.specs.Paths.{Graph, IsVertex, word_at}
use Rattle.sp_judge.specs.declared.scan.Scan.{Scan}
use Rattle.sp_judge.specs.declared.scan.Scan.TheVariants.{Whole, LeavesOut, Open}
use Rattle.sp_judge.specs.Several.{IsTableOfAny}
use Rattle.sp_answer.specs.Run.{IsAsked, IsUpTo, AreRunWords}
use Rattle.sp_answer.specs.declared.asked.Until.{Until}
use Rattle.sp_answer.specs.declared.asked.Until.TheVariants.{All as AllWords, Limit, Targets}

-- Words of walks from the sources, in a layout with room for each vertex; and what may be asked of them.
pub record CanJudge (P : ℕ) (g : Graph) (sources : List ℕ) (until : Until) (words : List Word) : Type 0 where
  pub layout : is_layout P ≡ true
  pub room : g.n ≤ max_pred P
  pub vertices : All (IsVertex g.n) sources
  pub asked : IsAsked P g.n until
  pub table : IsTableOfAny g sources (max_dist P) words

-- Arcs bear on what is asked up to this distance, or all arcs do. It is the limit, or a distance that no target's word exceeds.
abbrev pub BearsOn : Until → List Word → (far : Option ℕ) → Type 0
BearsOn AllWords words far = far ≡ None
BearsOn (Limit limit) words far = far ≡ Some limit
BearsOn (Targets targets) words (Some far) = All (λ t. IsUpTo far (word_at words t)) targets.now
BearsOn (Targets targets) words None = Unit {0}

-- The arcs show that the words answer what is asked, with the smallest vertex that is too far, if there is one; or they show
-- nothing.
abbrev pub ShowsAsked : (P : ℕ) → Graph → (sources : List ℕ) → Until → List Word → Scan → Type 0
ShowsAsked P g sources until words Whole = AreRunWords P g sources until words None
ShowsAsked P g sources until words (LeavesOut v) = AreRunWords P g sources until words (Some v)
ShowsAsked P g sources until words Open = Unit {0}

-- The list has only vertices, and it has each vertex with a word.
pub record AreReached (words : List Word) (reached : List ℕ) : Type 0 where
  pub vertices : All (IsVertex (length words)) reached
  pub covers : (v d p : ℕ) → IsVertex (length words) v → word_at words v ≡ Pair d p → Contains reached v
