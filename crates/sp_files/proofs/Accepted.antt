-- A text without a fault is that of the content that it spells.
use Rattle.std.proofs.Common.{◌≡◌, ℕ, ◌+◌, Bool, true, List, [], ◌∷◌, ◌++◌, length, Option, Some, None, refl, sym, ap, ◌∙◌, append_assoc, arith}
use Rattle.std.proofs.lemmas.List.{append-nil}
use Rattle.std.proofs.lemmas.List.Concat.{flat_map-append}
use Rattle.std.specs.List.{flat_map}
use Rattle.sp_word.specs.Word.{is_layout}
use Rattle.sp_text.specs.Lines.{ended, rest, lines}
use Rattle.sp_text.specs.First.{or_at, or_else, size_fault, line_fault, first_after, first_fault, fault_so_far, cut_short, fault_without_end, fault_at_end}
use Rattle.sp_text.proofs.LineCuts.{clean_parts}
use Rattle.sp_text.proofs.Meant.{text_is}
use Rattle.sp_text.proofs.Behind.{lines_whole}
use Rattle.sp_text.proofs.FaultlessText.{at_none, kind_none, else_none}
use Rattle.sp_files.specs.declared.lines.Line.{Line}
use Rattle.sp_files.specs.declared.lines.Line.TheVariants.{Problem, Row, End}
use Rattle.sp_files.specs.declared.taking.Spelled.{Spelled}
use Rattle.sp_files.specs.declared.taking.Spelled.TheVariants.{Nothing, Open, Whole}
use Rattle.sp_files.specs.TreeText.{end_text}
use Rattle.sp_files.specs.Spelling.{Content, place, next, spelling_state, fault, line_in, missing_of, judge}
use Rattle.sp_files.specs.Taking.{IsContent, Holds}
use Rattle.sp_files.proofs.LineBytes.{IsSmall, line_bytes, bytes_are}
use Rattle.sp_files.proofs.Contents.{count_small, row_same, problem_small, front, whole_text, begun_text, added_text}
use Rattle.sp_files.proofs.TakenLines.{Follows, follows, holds_next, spelled_push}

-- The text of what was spelled so far.
unfoldable pub text_of : Spelled Content → List ℕ
text_of Nothing = []
text_of (Open t) = front t
text_of (Whole t) = whole_text t

-- lines, each with its LF
abbrev pub with_lf : List (List ℕ) → List ℕ
with_lf lines = flat_map (λ line. line ++ 10 ∷ []) lines

-- What the lines say so far is their text.
pub record IsTold (P : ℕ) (begins : Bool → Bool) (lines : List (List ℕ)) : Type 0 where
  pub text : with_lf lines ≡ text_of (spelling_state lines)
  pub holds : Holds P begins (spelling_state lines)

pub record IsTextOf (P : ℕ) (begins : Bool → Bool) (text : List ℕ) : Type 0 where
  pub content : Content
  pub holds : IsContent P content
  pub kind : begins (place content).rooted ≡ true
  pub is : text ≡ whole_text content
  pub spells : spelling_state (lines text) ≡ Whole content

whole_content : (P : ℕ) (begins : Bool → Bool) (text : List ℕ) (s : Spelled Content) → lines text ≡ ended text → spelling_state (ended text) ≡ s → missing_of s ≡ None → text ≡ with_lf (ended text) → IsTold P begins (ended text) → IsTextOf P begins text
unfolding text_of
whole_content P begins text Nothing same is none all h = cc
whole_content P begins text (Open t) same is none all h = cc
whole_content P begins text (Whole t) same is none all h = let holds : Holds P begins (Whole t) = rw is at h.holds in record { content = t; holds = holds.0; kind = holds.1; is = all ∙ (h.text ∙ ap text_of is); spells = rw same is }

not_cut : (r : List ℕ) → cut_short r ≡ None → r ≡ []
not_cut [] h = refl
not_cut (b ∷ r) h = cc

pub whole_same : (t u : Content) → ◌≡◌ {A = Spelled Content} (Whole t) (Whole u) → t ≡ u
whole_same t u h = cc

line_text : (line : List ℕ) (l : Line) → line_in line ≡ Some l → IsSmall l → line ++ 10 ∷ [] ≡ line_bytes l ++ 10 ∷ []
line_text line l same small = ap (λ (t : List ℕ). t ++ 10 ∷ []) (bytes_are line l same small)

module _ (P : ℕ) (begins : Bool → Bool) (layout : is_layout P ≡ true) where
  -- One line more.
  step : (s : Spelled Content) (line : List ℕ) (l : Option Line) → line_in line ≡ l → Holds P begins s → Follows P begins s l → text_of s ++ (line ++ 10 ∷ []) ≡ text_of (next s l)
  unfolding text_of
  step (Whole t) line l same h is = absurd is
  step Nothing line None same h is = absurd is
  step (Open t) line None same h is = absurd is
  step Nothing line (Some (Problem near n second)) same h is =
      let small = problem_small P near n second layout is.1 in
      line_text line (Problem near n second) same (omega (arith, small.0), (omega (arith, small.1), tt)) ∙ sym (begun_text near n second)
  step Nothing line (Some (Row row)) same h is = absurd is
  step Nothing line (Some (End count)) same h is = absurd is
  step (Open t) line (Some (Problem near n second)) same h is = absurd is
  step (Open t) line (Some (Row row)) same h is =
      ap (λ (x : List ℕ). front t ++ x) (line_text line (Row row) same (row_same P t row h.0 is.1).1) ∙ sym (added_text t row is.0)
  step (Open t) line (Some (End count)) same h is =
      ap (λ (x : List ℕ). front t ++ x) (line_text line (End count) same (omega (arith, is, count_small P t h.0)) ∙ ap end_text is)

  told_line : (before : List (List ℕ)) (line : List ℕ) → IsTold P begins before → fault P begins (spelling_state before) (line_in line) ≡ None → IsTold P begins (before ++ line ∷ [])
  told_line before line h none =
      let s = spelling_state before in
      let is = follows P begins s (line_in line) none in
      let more = step s line (line_in line) refl h.holds is in
      record {
        text = rw (spelled_push before line) (flat_map-append (λ l. l ++ 10 ∷ []) before (line ∷ []) ∙ (ap (λ (t : List ℕ). with_lf before ++ t) (append-nil (line ++ 10 ∷ [])) ∙ (ap (λ (t : List ℕ). t ++ (line ++ 10 ∷ [])) h.text ∙ more)));
        holds = rw (spelled_push before line) (holds_next P begins s (line_in line) layout h.holds is);
      }

  told_lines : (before more : List (List ℕ)) → IsTold P begins before → first_after (judge P begins) before more ≡ None → IsTold P begins (before ++ more)
  unfolding first_after
  told_lines before [] h none = rw (append-nil before) h
  told_lines before (line ∷ more) h none =
      let parts = at_none (length before + 1) (line_fault (judge P begins) before line) (first_after (judge P begins) (before ++ line ∷ []) more) none in
      let own = kind_none (size_fault (judge P begins) before line) (fault P begins (spelling_state before) (line_in line)) parts.0 in
      rw (← append_assoc before (line ∷ []) more) (told_lines (before ++ line ∷ []) more (told_line before line h own.1) parts.1)

  -- The lines of a text without a fault.
  pub all_told : (all : List (List ℕ)) → first_fault (judge P begins) all ≡ None → IsTold P begins all
  unfolding text_of
  all_told all none = told_lines [] all (record { text = refl; holds = tt }) none

  -- A text without a fault is that of a content.
  pub accepted : (text : List ℕ) → fault_at_end (judge P begins) text ≡ None → IsTextOf P begins text
  unfolding fault_at_end
  accepted text none =
      let missing_or = or_at (length (lines text) + 1) (missing_of (spelling_state (lines text))) None in
      let cut_or = or_at (length (ended text) + 1) (cut_short (rest text)) None in
      let parts = else_none (fault_without_end true (judge P begins) text) (or_else (first_fault (judge P begins) (lines text)) missing_or) none in
      let whole = else_none (fault_so_far (judge P begins) text) cut_or parts.0 in
      let nothing = not_cut (rest text) (at_none (length (ended text) + 1) (cut_short (rest text)) None whole.1).0 in
      let same = lines_whole text nothing in
      let last = else_none (first_fault (judge P begins) (lines text)) missing_or parts.1 in
      let missing = at_none (length (lines text) + 1) (missing_of (spelling_state (lines text))) None last.1 in
      let clean = clean_parts (judge P begins) text whole.0 in
      whole_content P begins text (spelling_state (ended text)) same refl (rw same at missing.0) ((text_is text).whole ∙ (ap (λ (t : List ℕ). with_lf (ended text) ++ t) nothing ∙ append-nil (with_lf (ended text)))) (all_told (ended text) clean.0)

  -- A file may hold the content that such a text spells, and the text is its text.
  pub finished : (text : List ℕ) (t : Content) → fault_at_end (judge P begins) text ≡ None → spelling_state (lines text) ≡ Whole t → (text ≡ whole_text t) × IsContent P t
  finished text t none spells =
      let h = accepted text none in
      let same = whole_same h.content t (sym h.spells ∙ spells) in
      (h.is ∙ ap whole_text same, rw same at h.holds)
