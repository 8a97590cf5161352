-- What a pass over the arcs does to a table of words.
use Rattle.std.specs.Prelude.{◌≡◌, ℕ, ◌+◌, ◌*◌, ◌≤◌, List, length, All, sum_by, Some}
use Rattle.sp_word.specs.Word.{Word, Unreached, Pair, IsBelow, dist_of}
use Rattle.sp_paths.specs.declared.arc.Arc.{Arc}
use Rattle.sp_paths.specs.Paths.{IsClosed, word_at}
use Rattle.sp_graph.specs.LeftOut.{network}

-- The arc makes a pair from the word `from`; the distance of the pair is at most max, and the pair is less than the
-- word found.
abbrev pub IsLesserOffer : (max : ℕ) → Word → Arc → Word → Word → Type 0
IsLesserOffer max from arc found word = (d : ℕ) × (dist_of from ≡ Some d) × (d + arc.len ≤ max) × (word ≡ Pair (d + arc.len) arc.tail) × IsBelow word found

-- What the arc makes from the word `from` is not less than the word found.
abbrev pub IsNoLesser : (max : ℕ) → Word → Arc → Word → Type 0
IsNoLesser max from arc found = (d : ℕ) → dist_of from ≡ Some d → d + arc.len ≤ max → IsBelow (Pair (d + arc.len) arc.tail) found → ⊥

-- The distance is at most max, and the predecessor at most n.
abbrev pub IsSmall : (n max : ℕ) → Word → Type 0
IsSmall n max Unreached = Unit {0}
IsSmall n max (Pair d p) = (d ≤ max) × (p ≤ n)

-- The distances are at most max, and the predecessors are vertices of the table or 0.
abbrev pub IsSmallTable : ℕ → List Word → Type 0
IsSmallTable max words = All (IsSmall (length words) max) words

-- Each of these arcs between n vertices is relaxed.
abbrev pub IsClosedTable : (n max : ℕ) → List Arc → List Word → Type 0
IsClosedTable n max arcs words = IsClosed (network n arcs) max (word_at words)

-- This is the rank of a word in the order of words.
abbrev pub rank : (n max : ℕ) → Word → ℕ
rank n max Unreached = (max + 1) * (n + 1)
rank n max (Pair d p) = d * (n + 1) + p

-- The sum of the ranks of all words.
abbrev pub total_rank : ℕ → List Word → ℕ
total_rank max words = sum_by (rank (length words) max) words
