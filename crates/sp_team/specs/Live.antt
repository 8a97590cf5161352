-- The conditions on entries that are being relaxed.
use Rattle.std.specs.Prelude.{ℕ, ◌<◌, length}
use Rattle.sp_word.specs.Word.{Word, Pair}
use Rattle.sp_paths.specs.Paths.{Graph, IsVertex}
use Rattle.sp_paths.specs.Rows.{row_of}
use Rattle.sp_bins.specs.declared.entry.Entry.{Entry}

-- the entry's number is a vertex that some arc leaves
abbrev pub LeadsOn : Graph → Entry → Type 0
LeadsOn g e = IsVertex g.n e.vertex × (0 < length (row_of g.arcs e.vertex))

-- the law allows the vertex some pair of the entry's distance
abbrev pub MayHave : (law : ℕ → Word → Type 0) → Entry → Type 0
MayHave law e = (pred : ℕ) × law e.vertex (Pair e.dist pred)

-- The entry's vertex has an arc, and the law allows the vertex some pair of the entry's distance.
abbrev pub IsLive : (law : ℕ → Word → Type 0) → Graph → Entry → Type 0
IsLive law g e = LeadsOn g e × MayHave law e
