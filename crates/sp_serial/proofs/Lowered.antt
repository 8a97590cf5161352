-- Words that arcs lower.
use Rattle.std.proofs.Common.{◌≡◌, ℕ, ◌<◌, List, [], ◌∷◌, ◌++◌, length, get_or, sym, ◌∙◌, subst}
use Rattle.std.specs.Prelude.{All, Contains}
use Rattle.std.proofs.lemmas.List.Elements.{Contains-get_or, All-contains, All-append, All-push}
use Rattle.sp_word.specs.Word.{Word, max_dist}
use Rattle.sp_paths.specs.declared.arc.Arc.{Arc}
use Rattle.sp_paths.specs.Paths.{Graph, IsGraph, IsArc}
use Rattle.sp_paths.specs.Rows.{row_of}
use Rattle.sp_paths.proofs.RowSteps.{in_row}
use Rattle.sp_judge.specs.Lowering.{IsLoweredBy}
use Rattle.sp_judge.proofs.LoweringSteps.{lowered_then}
use Rattle.sp_serial.specs.Lowers.{AreArcs, HasLowered}

-- what a list of arcs has beyond its end
abbrev pub no_arc : Arc
no_arc = record { tail = 0; head = 0; len = 0 }

-- arcs of the graph lower words that others have lowered
pub lowers_then : {P : ℕ} {g : Graph} {a b c : List Word} {K L : Type 0} → HasLowered P g a b K → HasLowered P g b c L → HasLowered P g a c L
lowers_then {P = P} {g = g} {a = a} {b = b} {c = c} first second = record { size = second.size; lowered = lowered_then (max_dist P) g.arcs a b c first.lowered second.lowered; kept = second.kept }

-- so does one of these
pub arc_lowers : {P : ℕ} {g : Graph} {a b : List Word} {K L : Type 0} (arcs : List Arc) (i : ℕ) (after : List Word) → AreArcs g arcs → i < length arcs
    → HasLowered P g a b K → length after ≡ length b → IsLoweredBy (max_dist P) (get_or arcs i no_arc) b after → L → HasLowered P g a after L
arc_lowers {P = P} {g = g} {a = a} {b = b} arcs i after here low earlier size by kept =
    record { size = size ∙ earlier.size; lowered = lowered_then (max_dist P) g.arcs a b after earlier.lowered (by g.arcs (here i no_arc low)); kept = kept }

-- arcs of the graph lead from vertices to vertices
pub all_ends : (g : Graph) → IsGraph g → (n : ℕ) → n ≡ g.n → (arcs : List Arc) → All (Contains g.arcs) arcs → All (IsArc n) arcs
all_ends g fine n size arcs here = λ k none low. subst (λ m. IsArc m (get_or arcs k none)) (sym size) (All-contains (IsArc g.n) g.arcs (get_or arcs k none) fine (here k none low))

-- so does one at a place among them
pub arc_at : (g : Graph) → IsGraph g → (n : ℕ) → n ≡ g.n → (arcs : List Arc) (i : ℕ) (arc : Arc) → i < length arcs → arc ≡ get_or arcs i arc → All (Contains g.arcs) arcs → IsArc n arc
arc_at g fine n size arcs i arc low is here = subst (IsArc n) (sym is) (all_ends g fine n size arcs here i arc low)

-- the arcs of a row are the graph's
pub row_arcs : (g : Graph) (v : ℕ) (row : List Arc) → row ≡ row_of g.arcs v → AreArcs g row
row_arcs g v row is = λ k none low. (in_row g.arcs v (get_or row k none) (subst (λ xs. Contains xs (get_or row k none)) is (Contains-get_or row k none low))).0

-- an arc of a row stands behind arcs of the graph
pub row_more : (g : Graph) (v : ℕ) (row : List Arc) (i : ℕ) (none : Arc) (arcs : List Arc) → row ≡ row_of g.arcs v → i < length row → AreArcs g arcs → AreArcs g (arcs ++ get_or row i none ∷ [])
row_more g v row i none arcs is low here = All-push (Contains g.arcs) arcs (get_or row i none) here (row_arcs g v row is i none low)

-- so do those of a row
pub row_behind : (g : Graph) (v : ℕ) (row arcs after : List Arc) → row ≡ row_of g.arcs v → AreArcs g arcs → after ≡ arcs ++ row → AreArcs g after
row_behind g v row arcs after is here put = subst (AreArcs g) (sym put) (All-append (Contains g.arcs) arcs row here (row_arcs g v row is))
