-- What is known about vertices whose arcs are relaxed, before and after their requests are answered.
use Rattle.std.specs.Prelude.{◌≡◌, ℕ, ◌+◌, ◌≤◌, ◌⊎◌, List, [], ◌∷◌, ◌++◌, All, Vec}
use Rattle.std.specs.declared.alloc.Global.{Global}
use Rattle.sp_word.specs.History.{Table}
use Rattle.sp_paths.specs.declared.arc.Arc.{Arc}
use Rattle.sp_paths.specs.Paths.{Graph}
use Rattle.sp_paths.specs.Rows.{row_of}
use Rattle.sp_graph.specs.Marks.{IsTrueMark}
use Rattle.sp_graph.specs.declared.marks.Mark.{Mark}
use Rattle.sp_offer.specs.Order.{IsNoMore}
use Rattle.sp_offer.specs.Story.{Story, known_table}
use Rattle.sp_team.specs.declared.relax.Request.{Request}
use Rattle.sp_team.specs.Requests.{request}

-- the head has no greater word than the one that was asked for
abbrev pub IsMet : {P : ℕ} → Table → Request P → Type 0
IsMet words r = IsNoMore (words r.head) r.word

-- no vertex has a greater word in the later table
abbrev pub HasFallen : (words later : Table) → Type 0
HasFallen words later = (v : ℕ) → IsNoMore (later v) (words v)

-- once the waiting requests are met, this one is met too
abbrev pub WillBeMet : {P : ℕ} → Table → (waiting : List (Request P)) → Request P → Type 0
WillBeMet words waiting r = (later : Table) → HasFallen words later → All (IsMet later) waiting → IsMet later r

-- the sums of all arcs of a row are within the greatest distance, and the requests that the arcs make at one distance will be met
abbrev pub RowWillBeMet : {P : ℕ} → (max : ℕ) → Table → (waiting : List (Request P)) → (dist : ℕ) → (row : List Arc) → Type 0
RowWillBeMet {P} max words waiting d row = All (λ a. (d + a.len ≤ max) × WillBeMet words waiting (request P d a)) row

-- once the waiting requests are met, the mark is true
abbrev pub WillBeTrue : {P : ℕ} → (max : ℕ) → Graph → Table → (waiting : List (Request P)) → Mark → Type 0
WillBeTrue max g words waiting mark = RowWillBeMet max words waiting mark.dist (row_of g.arcs mark.vertex)

-- the mark of a vertex at a distance was appended; or none was
abbrev pub MayNote : (vertex dist : ℕ) → (before after : List Mark) → Type 0
MayNote v d before after = (after ≡ before ++ record { vertex = v; dist = d } ∷ []) ⊎ (after ≡ before)

-- all marks of a list are true of the words that the story knows
abbrev pub AllTrue : (max : ℕ) → Graph → Story → List Mark → Type 0
AllTrue max g story marks = All (IsTrueMark max g (known_table story)) marks

-- so are those of all lists
abbrev pub AreTrue : (max : ℕ) → Graph → Story → List (Vec Mark Global) → Type 0
AreTrue max g story lists = All (λ list. AllTrue max g story list.items) lists
