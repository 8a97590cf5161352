-- What a caller knows, and what its calls show it.
use Rattle.std.specs.Prelude.{◌≡◌, ℕ, ◌+◌, ◌-◌, ◌<◌, ◌≤◌, ◌==◌, nat_lt, if◌then◌else◌, List, [], ◌∷◌, ◌++◌, length, drop, map, slice_index_or, count_by}
use mathlib.Core.List.{IsPrefix}
use Rattle.atomic_table.specs.Seated.{TableId}
use Rattle.sp_word.specs.Word.{Word, Unreached}
use Rattle.sp_word.specs.History.{Table, Event, Read, left_by, run, IsLegal}
use Rattle.sp_offer.specs.Order.{IsNoMore, IsKnownWord}
use Rattle.sp_offer.specs.Histories.{blank, event, found_by, lowerings}
use Rattle.sp_offer.specs.Trail.{Found}

-- The history that a caller has seen, and the places of the caller's own calls in it.
pub record Story : Type 0 where
  pub seen : List Event
  pub own : List ℕ

-- The table to which a caller belongs, its number there, its story, and its trail: the steps of its calls, in order.
pub record Knowledge : Type 0 where
  pub table : TableId
  pub number : ℕ
  pub story : Story
  pub trail : List Found

-- What a caller knows about the table is the end of the history that it has seen. The word of a vertex is at most this.
abbrev pub known_table : Story → Table
known_table s = run blank s.seen

-- ## Own calls

-- This counts how often a place occurs in a list of places.
abbrev pub times : ℕ → List ℕ → ℕ
times p own = count_by (λ q. q == p) own

-- This is 1 at each place of a history of n calls, and 0 past its end.
abbrev pub once_below : ℕ → ℕ → ℕ
once_below p n = if nat_lt p n then 1 else 0

-- No place occurs twice, and each is one of the first n.
abbrev pub IsOnce : List ℕ → ℕ → Type 0
IsOnce own n = (p : ℕ) → times p own ≤ once_below p n

-- The history is legal, and each of the caller's calls occurs in it once.
pub record IsStory (s : Story) : Type 0 where
  pub legal : IsLegal blank s.seen
  pub once : IsOnce s.own (length s.seen)

-- These are the calls themselves, in the order in which the caller acquired them.
abbrev pub own_calls : Story → List Event
own_calls s = map (λ p. slice_index_or s.seen p (event 0 0 (Read Unreached))) s.own

-- ## New stories

-- Nothing was seen, and nothing done.
abbrev pub empty_story : Story
empty_story = record { seen = []; own = [] }

-- The same was seen, and nothing done.
abbrev pub story_beside : Story → Story
story_beside s = record { seen = s.seen; own = [] }

-- ## What calls show

-- These are the calls by which a caller's history grew.
abbrev pub new_calls : Story → Story → List Event
new_calls s t = drop (length s.seen) t.seen

module _ (law : ℕ → Word → Type 0) where
  -- The caller saw the history so far and made no call: the history begins with all that was seen before, and this word
  -- of the vertex was found.
  pub record Looks (vertex : ℕ) (found : Word) (s t : Story) : Type 0 where
    pub between : List Event
    pub seen : t.seen ≡ s.seen ++ between
    pub own : t.own ≡ s.own
    pub last : known_table t vertex ≡ found
    pub lawful : IsKnownWord law vertex found
    pub words : (v : ℕ) → IsKnownWord law v (known_table t v)
    pub is_story : IsStory t

  -- The caller saw the history so far, and this call was appended: the history begins with all that was seen before,
  -- the call found the word to which all other calls had led, and it is added to the caller's own calls.
  pub record Calls (e : Event) (s t : Story) : Type 0 where
    pub between : List Event
    pub seen : t.seen ≡ (s.seen ++ between) ++ e ∷ []
    pub own : t.own ≡ s.own ++ length (s.seen ++ between) ∷ []
    pub last : run blank (s.seen ++ between) e.vertex ≡ found_by e.call
    pub lawful : IsKnownWord law e.vertex (found_by e.call)
    pub words : (v : ℕ) → IsKnownWord law v (known_table t v)
    pub is_story : IsStory t

-- The word found is at most the known one; afterwards the word that the call left is known, and no vertex's known word
-- has risen.
pub record Knows (e : Event) (s t : Story) : Type 0 where
  pub below : IsNoMore (found_by e.call) (known_table s e.vertex)
  pub here : known_table t e.vertex ≡ left_by e.call (found_by e.call)
  pub falls : (v : ℕ) → IsNoMore (known_table t v) (known_table s v)

-- Each lost exchange found that the word of the vertex had been lowered.
abbrev pub IsTried : ℕ → Story → Story → ℕ → Type 0
IsTried vertex s t tries = (0 < tries) × (tries ≤ lowerings vertex (new_calls s t) + 1)

-- The story begins with what each of two stories had seen, and knows about each word what either knew.
pub record Follows (law : ℕ → Word → Type 0) (r s t : Story) : Type 0 where
  pub first : IsPrefix r.seen t.seen
  pub second : IsPrefix s.seen t.seen
  pub falls : (v : ℕ) → IsNoMore (known_table t v) (known_table r v) × IsNoMore (known_table t v) (known_table s v)
  pub words : (v : ℕ) → IsKnownWord law v (known_table t v)
  pub is_story : IsStory t

-- ## Copies

-- There is one read of each vertex from k on, in rising order.
abbrev pub Reads : (ℕ → Word → Type 0) → ℕ → ℕ → List Word → Story → Story → Type 0
Reads law by k [] s t = s ≡ t
Reads law by k (x ∷ xs) s t = (m : Story) × Calls law (event by k (Read x)) s m × Reads law by (k + 1) xs m t

-- These are those reads, as the caller's own calls.
abbrev pub reads_of : ℕ → ℕ → List Word → List Event
reads_of by k [] = []
reads_of by k (x ∷ xs) = event by k (Read x) ∷ reads_of by (k + 1) xs

-- This is the word of a vertex in a copy, where vertex 1 is at index 0.
abbrev pub copied_word : List Word → ℕ → Word
copied_word words v = slice_index_or words (v - 1) Unreached

-- Each word of a copy is unreached or lawful, at most what was known before, and at least what is known afterwards.
pub record IsCopy (law : ℕ → Word → Type 0) (words : List Word) (s t : Story) : Type 0 where
  pub lawful : (v : ℕ) → 0 < v → v ≤ length words → IsKnownWord law v (copied_word words v)
  pub below : (v : ℕ) → 0 < v → v ≤ length words → IsNoMore (copied_word words v) (known_table s v)
  pub above : (v : ℕ) → 0 < v → v ≤ length words → IsNoMore (known_table t v) (copied_word words v)
  pub falls : (v : ℕ) → IsNoMore (known_table t v) (known_table s v)
  pub words_known : (v : ℕ) → IsKnownWord law v (known_table t v)
