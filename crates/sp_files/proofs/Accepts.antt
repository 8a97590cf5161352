-- The text of a content is without a fault, and spells it.
use Rattle.std.proofs.Common.{◌≡◌, ℕ, ◌≤◌, Bool, true, false, List, [], ◌∷◌, ◌++◌, length, Some, None, refl, sym, ap, ◌∙◌, append_assoc, arith}
use Rattle.std.specs.Prelude.{is_some}
use mathlib.Core.Bool.{beq}
use Rattle.std.proofs.lemmas.Bool.{le-ltb}
use Rattle.std.specs.List.{AllByRecursion}
use Rattle.sp_word.specs.Word.{is_layout}
use Rattle.sp_text.specs.Lines.{cut, ended, rest, lines}
use Rattle.sp_text.specs.Meaning.{HasNoLf}
use Rattle.sp_text.specs.First.{Judge, size_fault, line_fault, first_after, first_fault, fault_so_far, fault_at_end}
use Rattle.sp_text.proofs.LineCuts.{cut-append, ended_at_lf, rest_at_lf, ended_at_run, rest_at_run}
use Rattle.sp_text.proofs.Behind.{lines_whole}
use Rattle.sp_files.specs.declared.lines.RowNumbers.{RowNumbers}
use Rattle.sp_files.specs.declared.lines.Line.{Line}
use Rattle.sp_files.specs.declared.lines.Line.TheVariants.{Problem, Row, End}
use Rattle.sp_files.specs.declared.taking.Spelled.{Spelled}
use Rattle.sp_files.specs.declared.taking.Spelled.TheVariants.{Nothing, Open, Whole}
use Rattle.sp_files.specs.Spelling.{Content, place, begin, add, next, spelling_state, fault, line_in, is_whole, judge}
use Rattle.sp_files.specs.Taking.{IsContent}
use Rattle.sp_files.proofs.Ranges.{range_ok}
use Rattle.sp_files.proofs.LineBytes.{IsSmall, line_bytes, read_back, bytes_no_lf, bytes_short}
use Rattle.sp_files.proofs.Contents.{count_small, row_same, problem_small, begun, added, whole_text, adds, AreAdded, made_of}
use Rattle.sp_files.proofs.TakenLines.{spelled_push}
use Rattle.sp_files.proofs.Accepted.{with_lf, text_of, whole_same, all_told}

-- 1. The lines of a text of lines.

one_line : (line : List ℕ) → HasNoLf line → (ended (line ++ 10 ∷ []) ≡ line ∷ []) × (rest (line ++ 10 ∷ []) ≡ [])
unfolding ended rest
one_line line none = (
  ended_at_lf line ∙ rw (ended_at_run [] line none, rest_at_run [] line none) refl,
  rest_at_lf line,
)

ended_more : (a b : List ℕ) → rest a ≡ [] → ended (a ++ b) ≡ ended a ++ ended b
unfolding ended rest
ended_more a b none = ap (λ (c : List (List ℕ) × List ℕ). c.0) (cut-append [] a b) ∙ ap (λ (r : List ℕ). (cut [] a).0 ++ (cut r b).0) none

rest_more : (a b : List ℕ) → rest a ≡ [] → rest (a ++ b) ≡ rest b
unfolding ended rest
rest_more a b none = ap (λ (c : List (List ℕ) × List ℕ). c.1) (cut-append [] a b) ∙ ap (λ (r : List ℕ). (cut r b).1) none

lines_back : (lines : List (List ℕ)) → AllByRecursion HasNoLf lines → (ended (with_lf lines) ≡ lines) × (rest (with_lf lines) ≡ [])
unfolding ended rest
lines_back [] none = (refl, refl)
lines_back (line ∷ more) none =
    let first = one_line line none.0 in
    let later = lines_back more none.1 in (
      ended_more (line ++ 10 ∷ []) (with_lf more) first.1 ∙ rw (first.0, later.0) refl,
      rest_more (line ++ 10 ∷ []) (with_lf more) first.1 ∙ later.1,
    )

-- 2. Its lines have no fault.

-- This line stands behind others that spell this.
record IsLine (P : ℕ) (begins : Bool → Bool) (before : List (List ℕ)) (s : Spelled Content) (l : Line) : Type 0 where
  none : line_fault (judge P begins) before (line_bytes l) ≡ None
  spells : spelling_state (before ++ line_bytes l ∷ []) ≡ next s (Some l)
  no_lf : HasNoLf (line_bytes l)

size_none : (judge : Judge) (before : List (List ℕ)) (line : List ℕ) → judge.closed before ≡ false → length line ≤ 1024 → size_fault judge before line ≡ None
size_none judge before line open_still short = rw (open_still, le-ltb 1024 (length line) short) refl

first_then : (judge : Judge) (before : List (List ℕ)) (line : List ℕ) (more : List (List ℕ)) → line_fault judge before line ≡ None → first_after judge (before ++ line ∷ []) more ≡ None → first_after judge before (line ∷ more) ≡ None
unfolding first_after
first_then judge before line more none later = rw none later

none_later : (judge : Judge) (before : List (List ℕ)) → first_after judge before [] ≡ None
unfolding first_after
none_later judge before = refl

-- These lines stand behind others without a fault, and make this content whole.
record IsClean (P : ℕ) (begins : Bool → Bool) (before more : List (List ℕ)) (t : Content) : Type 0 where
  none : first_after (judge P begins) before more ≡ None
  spells : spelling_state (before ++ more) ≡ Whole t
  no_lf : AllByRecursion HasNoLf more

-- the lines of rows, and the last line
row_lines : List RowNumbers → (count : ℕ) → List (List ℕ)
row_lines [] count = line_bytes (End count) ∷ []
row_lines (row ∷ more) count = line_bytes (Row row) ∷ row_lines more count

pub record IsAccepted (P : ℕ) (begins : Bool → Bool) (t : Content) : Type 0 where
  pub none : fault_at_end (judge P begins) (whole_text t) ≡ None
  pub spells : spelling_state (ended (whole_text t)) ≡ Whole t

beq_refl : (a b : Bool) → a ≡ b → beq a b ≡ true
beq_refl true b same = rw (← same) refl
beq_refl false b same = rw (← same) refl

module _ (P : ℕ) (begins : Bool → Bool) (layout : is_layout P ≡ true) where
  line_then : (before more : List (List ℕ)) (s : Spelled Content) (l : Line) (t : Content) → IsLine P begins before s l → IsClean P begins (before ++ line_bytes l ∷ []) more t → IsClean P begins before (line_bytes l ∷ more) t
  line_then before more s l t own later = record {
    none = first_then (judge P begins) before (line_bytes l) more own.none later.none;
    spells = ap spelling_state (sym (append_assoc before (line_bytes l ∷ []) more)) ∙ later.spells;
    no_lf = (own.no_lf, later.no_lf);
  }

  told_none : (text : List ℕ) (all : List (List ℕ)) (t : Content) → ended text ≡ all → rest text ≡ [] → first_fault (judge P begins) all ≡ None → spelling_state all ≡ Whole t → fault_at_end (judge P begins) text ≡ None
  unfolding fault_at_end fault_so_far
  told_none text all t ended_is rest_is none spells =
      let same : lines text ≡ all = lines_whole text rest_is ∙ ended_is in
      rw (same, ended_is, rest_is, none, spells) refl

  line_clean : (before : List (List ℕ)) (s : Spelled Content) (l : Line) → spelling_state before ≡ s → is_whole s ≡ false → IsSmall l → fault P begins s (Some l) ≡ None → IsLine P begins before s l
  line_clean before s l same open_still sizes none =
      let bytes = line_bytes l in
      let back = read_back l sizes in
      let first = size_none (judge P begins) before bytes (ap (λ (x : Spelled Content). is_whole x) same ∙ open_still) (bytes_short l sizes) in
      record {
        none = rw first (ap (λ (x : Spelled Content). fault P begins x (line_in bytes)) same ∙ (ap (fault P begins s) back ∙ none));
        spells = spelled_push before bytes ∙ (ap (λ (x : Spelled Content). next x (line_in bytes)) same ∙ ap (next s) back);
        no_lf = bytes_no_lf l sizes;
      }

  rows_clean : (before : List (List ℕ)) (t : Content) (rows : List RowNumbers) → IsContent P t → spelling_state before ≡ Open t → AreAdded P t rows → IsClean P begins before (row_lines rows (place (adds t rows)).rows) (adds t rows)
  unfolding adds row_lines
  rows_clean before t [] holds same none =
      let count = (place t).rows in
      let own = line_clean before (Open t) (End count) same refl (omega (arith, count_small P t holds)) (range_ok 82 count count count None (omega arith) (omega arith) refl) in
      record { none = first_then (judge P begins) before (line_bytes (End count)) [] own.none (none_later (judge P begins) (before ++ line_bytes (End count) ∷ [])); spells = own.spells; no_lf = (own.no_lf, tt) }
  rows_clean before t (row ∷ more) holds same (kind, none, later) =
      let own = line_clean before (Open t) (Row row) same refl (row_same P t row holds none).1 (rw (beq_refl (is_some row.root) (place t).rooted kind) none) in
      line_then before _ (Open t) (Row row) _ own (rows_clean (before ++ line_bytes (Row row) ∷ []) (add t row) more (added P t row holds kind none) own.spells later)

  lines_accepted : (all : List (List ℕ)) (t : Content) → IsClean P begins [] all t → IsAccepted P begins t
  unfolding text_of
  lines_accepted all t clean =
      let text : with_lf all ≡ whole_text t = (all_told P begins layout all clean.none).text ∙ ap text_of clean.spells in
      let back = lines_back all clean.no_lf in
      let ended_is : ended (whole_text t) ≡ all = ap ended (sym text) ∙ back.0 in
      let rest_is : rest (whole_text t) ≡ [] = ap rest (sym text) ∙ back.1 in
      record { none = told_none (whole_text t) all t ended_is rest_is clean.none clean.spells; spells = ap spelling_state ended_is ∙ clean.spells }

  -- The text of each content that may begin so is accepted, and spells that content.
  pub accepts : (t : Content) → IsContent P t → begins (place t).rooted ≡ true → IsAccepted P begins t
  accepts t holds may =
      let made = made_of P t holds in
      let near = (place t).rooted in
      let first : Line = Problem near made.n made.second in
      let small = problem_small P near made.n made.second layout made.first_none in
      let own = line_clean [] Nothing first refl refl (omega (arith, small.0), (omega (arith, small.1), tt)) (rw may made.first_none) in
      let rows = rows_clean (line_bytes first ∷ []) (begin near made.n made.second) made.rows (begun P near made.n made.second layout made.first_none) own.spells made.rows_none in
      rw made.is at (lines_accepted _ _ (line_then [] _ Nothing first _ own rows))

  -- Two contents have two texts.
  pub one_content : (t u : Content) → IsContent P t → IsContent P u → begins (place t).rooted ≡ true → begins (place u).rooted ≡ true → whole_text t ≡ whole_text u → t ≡ u
  one_content t u first second may_first may_second same =
      whole_same t u (sym (accepts t first may_first).spells ∙ (ap (λ (text : List ℕ). spelling_state (ended text)) same ∙ (accepts u second may_second).spells))
