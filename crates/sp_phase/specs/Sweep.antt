-- What a leader's copy of the words shows.
use Rattle.std.specs.Prelude.{◌≡◌, ℕ, ◌<◌, List, length, Some}
use Rattle.sp_word.specs.Word.{Word, Pair, max_dist}
use Rattle.sp_word.specs.History.{Table}
use Rattle.sp_paths.specs.Paths.{IsVertex, word_at}
use Rattle.sp_paths.specs.Phase.{IsMarkedCopy, HasNoOpen}
use Rattle.sp_offer.specs.Order.{IsKnownWord, IsNoMore}
use Rattle.sp_offer.specs.Story.{Knowledge, known_table}
use Rattle.sp_answer.specs.Table.{TreeTable, table_of}
use Rattle.sp_bins.specs.declared.entry.Entry.{Entry}
use Rattle.sp_phase.specs.declared.marks.LeaderMark.{LeaderMark}
use Rattle.sp_phase.specs.Stage.{Stage, IsStage, law_of}
use Rattle.sp_phase.specs.Marks.{mark_of, light_at, heavy_at}
use Rattle.sp_phase.specs.declared.sweeping.RelaxedBelow.{RelaxedBelow}
use Rattle.sp_phase.specs.Lead.{Lead}

-- The mark says that the vertex was relaxed at the distance d, if that is below the bounds.
abbrev pub IsMarkedAt : LeaderMark → RelaxedBelow → (d : ℕ) → Type 0
IsMarkedAt m b d = (d < b.light → m.light ≡ Some d) × (d < b.heavy → m.heavy ≡ Some d)

-- The marks say so of this vertex.
abbrev pub IsRelaxedAtDist : List LeaderMark → RelaxedBelow → (u d : ℕ) → Type 0
IsRelaxedAtDist marks b u d = IsMarkedAt (mark_of marks u) b d

-- This holds for each of the first n vertices at the distance of its word.
abbrev pub AreRelaxed : List Word → List LeaderMark → RelaxedBelow → (n : ℕ) → Type 0
AreRelaxed words marks b n = (u d p : ℕ) → IsVertex n u → word_at words u ≡ Pair d p → IsRelaxedAtDist marks b u d

-- This holds for the vertex at the distance of its word.
abbrev pub IsRelaxedHere : List Word → List LeaderMark → RelaxedBelow → (u : ℕ) → Type 0
IsRelaxedHere words marks b u = (d p : ℕ) → word_at words u ≡ Pair d p → IsRelaxedAtDist marks b u d

-- The entry's vertex has its distance, and wasn't relaxed there.
abbrev pub IsOpen : List Word → List LeaderMark → RelaxedBelow → Entry → Type 0
IsOpen words marks b e = IsVertex (length words) e.vertex × ((p : ℕ) × (word_at words e.vertex ≡ Pair e.dist p)) × (IsRelaxedAtDist marks b e.vertex e.dist → ⊥)

-- This is a copy of all words. It is lawful, at most what was known when the marks were made, and at least what the
-- caller knows now, which is lawful too.
pub record IsCopied (P : ℕ) (st : Stage) (c : Knowledge) (marks : List LeaderMark) (copy : List Word) : Type 0 where
  pub words : Table
  pub of : IsMarkedCopy st.graph st.source (max_dist P) st.delta words (word_at copy) (light_at marks) (heavy_at marks)
  pub size : length copy ≡ st.graph.n
  pub above : (v : ℕ) → IsVertex st.graph.n v → IsNoMore (known_table c.story v) (word_at copy v)
  pub stage : IsStage P st
  pub lawful : (v : ℕ) → IsKnownWord (law_of P st) v (known_table c.story v)

-- No vertex is open in it.
abbrev pub IsSwept : (P : ℕ) → Stage → Knowledge → List LeaderMark → List Word → Type 0
IsSwept P st c marks copy = IsCopied P st c marks copy × HasNoOpen st.graph (word_at copy) (light_at marks) (heavy_at marks)

-- This holds for the leader's copy.
abbrev pub HasCopied : (P : ℕ) → Lead → Type 0
HasCopied P l = IsCopied P l.stage l.caller l.marks.each l.words

-- The leader has copied the words, and no vertex is open in its copy.
abbrev pub HasSwept : (P : ℕ) → Lead → Type 0
HasSwept P l = IsSwept P l.stage l.caller l.marks.each l.words

-- In the leader's copy each vertex was relaxed as far as the bounds require.
abbrev pub HasRelaxed : RelaxedBelow → Lead → Type 0
HasRelaxed b l = AreRelaxed l.words l.marks.each b (length l.words)

-- The leader copied the words.
pub record TakesCopy (P : ℕ) (l l' : Lead) : Type 0 where
  pub rest : l' ≡ record l { caller = l'.caller; words = l'.words }
  pub copied : HasCopied P l'

-- The tree has these words.
abbrev pub HasWords : TreeTable → (n : ℕ) → Table → Type 0
HasWords t n words = (v : ℕ) → IsVertex n v → words v ≡ table_of t v
