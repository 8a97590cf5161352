-- The packed text of a graph.
use Rattle.std.specs.Prelude.{ℕ, ◌+◌, ◌<◌, ◌≤◌, ◌^◌, ◌==◌, Bool, false, List, [], ◌∷◌, ◌++◌, length, map, All, Option, Some, None}
use Rattle.std.specs.List.{flat_map, range_with_len}
use Rattle.sp_paths.specs.declared.arc.Arc.{Arc}
use Rattle.sp_paths.specs.Paths.{Graph, IsGraph}
use Rattle.sp_graph.specs.Order.{in_order}
use Rattle.sp_graph.specs.Keys.{tail_of, keys_to}
use Rattle.sp_packed.specs.Words.{words, sum_on, no_sum, sum_words}

-- The first byte of the text is 0x89.
abbrev pub is_packed : List ℕ → Bool
is_packed [] = false
is_packed (b ∷ text) = b == 0x89

-- The next byte is 0x89, if there is one.
abbrev pub shows_packed : Option ℕ → Bool
shows_packed None = false
shows_packed (Some b) = b == 0x89

-- 0x89 S P T, then CR LF 0x1A and the number of the form, 1; the number of vertices; the number of arcs.
unfoldable pub head_words : (n m : ℕ) → List ℕ
head_words n m = 0x54505389 ∷ 0x011A0A0D ∷ n ∷ m ∷ []

-- These are the ends of rows: for each number from 0 to n, how many arcs have a tail of at most that number.
abbrev pub ends_of : Graph → List ℕ
ends_of g = map (λ v. keys_to tail_of g.arcs v) (range_with_len 0 (g.n + 1))

-- These are the words of an arc. The row of the arc gives its tail.
abbrev pub arc_words : Arc → List ℕ
arc_words a = a.head ∷ a.len ∷ []

-- These are the words of arcs, in order.
abbrev pub arcs_words : List Arc → List ℕ
arcs_words arcs = flat_map arc_words arcs

-- These are the words of the head, the ends of rows, and the arcs.
abbrev pub content : (n : ℕ) (ends : List ℕ) (arcs : List Arc) → List ℕ
content n ends arcs = head_words n (length arcs) ++ (ends ++ arcs_words arcs)

-- These are words, followed by the words of their sum.
abbrev pub with_sum : List ℕ → List ℕ
with_sum numbers = numbers ++ sum_words (sum_on no_sum numbers)

-- These are the words of a graph, with its arcs by tail, then by head, then by length.
unfoldable pub packed_words : Graph → List ℕ
packed_words g = with_sum (content g.n (ends_of g) (in_order g.arcs))

-- This is the packed text of a graph.
abbrev pub packed_text : Graph → List ℕ
packed_text g = words (packed_words g)

-- There is a vertex, and each number fits in a word.
pub record IsPackable (g : Graph) : Type 0 where
  pub some : 1 ≤ g.n
  pub n : g.n < 2 ^ 32
  pub few : length g.arcs < 2 ^ 32
  pub graph : IsGraph g
  pub lengths : All (λ a. a.len < 2 ^ 32) g.arcs

-- The graph has at most `top` vertices and at most `most` arcs.
pub record IsWithin (top most : ℕ) (g : Graph) : Type 0 where
  pub n : g.n ≤ top
  pub arcs : length g.arcs ≤ most
