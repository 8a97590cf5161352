-- The lines of a row, one after the other.
use Rattle.std.proofs.Common.{◌≡◌, ℕ, ◌+◌, ◌<◌, ◌≤◌, ◌^◌, List, [], ◌∷◌, ◌++◌, length, take, get_or, true, refl, sym, ap, ◌∙◌, cond, arith}
use Rattle.std.specs.Prelude.{count_by}
use Rattle.std.specs.Io.KnownBytes.{Appends}
use Rattle.std.specs.List.{flat_map}
use Rattle.std.proofs.lemmas.List.{map-append, append-nil, take_more, length-map}
use Rattle.std.proofs.lemmas.List.Sums.{sum_by-cons, count_by-le-length}
use Rattle.sp_word.specs.Word.{max_dist}
use Rattle.sp_device.specs.declared.devices.Write.{Ghosts as Writer}
use Rattle.sp_device.specs.Devices.{IsBegun}
use Rattle.sp_paths.specs.Paths.{Graph, PairAnswer, IsPair}
use Rattle.sp_answer.specs.declared.pair.PairAnswer.{PairAnswer as Found}
use Rattle.sp_answer.specs.Pair.{answer_of}
use Rattle.sp_jobs.specs.Told.{IsDue, IsWritten, told_text}
use Rattle.sp_jobs.specs.PairAnswers.{word_kind, ArePairAnswers, pairs_text, is_too_far}
use Rattle.sp_jobs.specs.declared.row.Row.{Row}
use Rattle.sp_jobs.specs.Matrix.{pairs_from}
use Rattle.sp_jobs.specs.Row.{targets_in, answers_in, line_text, is_far_line, told_of_row, told_pairs, AreLines, IsRow, IsRowTold}

-- ## Answers

-- The answers to some pairs, and to those behind them.
pub answers_both : (P : ℕ) (g : Graph) (front back : List (ℕ × ℕ)) (first second : List PairAnswer) → ArePairAnswers word_kind P g front first → ArePairAnswers word_kind P g back second → ArePairAnswers word_kind P g (front ++ back) (first ++ second)
answers_both P g [] back [] second are more = more
answers_both P g [] back (a ∷ first) second are more = absurd are
answers_both P g (p ∷ front) back [] second are more = absurd are
answers_both P g (p ∷ front) back (a ∷ first) second are more = (are.0, answers_both P g front back first second are.1 more)

-- One more line stands for one more target.
pub lines_more : (P : ℕ) (g : Graph) (s : ℕ) (targets : List ℕ) (k : ℕ) (lines : List (ℕ × Found)) (answer : Found) → k < length targets → AreLines P g s (take k targets) lines → IsPair g s (get_or targets k 0) (max_dist P) (answer_of answer)
    → AreLines P g s (take (k + 1) targets) (lines ++ (get_or targets k 0, answer) ∷ [])
lines_more P g s targets k lines answer less h is =
    let t = get_or targets k 0 in
    let line : List (ℕ × Found) = (t, answer) ∷ [] in
    let front : List (ℕ × ℕ) = pairs_from s (take k targets) in
    let pairs : pairs_from s (take k targets ++ t ∷ []) ≡ front ++ (s, t) ∷ [] = map-append (λ (v : ℕ). (s, v)) (take k targets) (t ∷ []) in
    let answers : answers_in (lines ++ line) ≡ answers_in lines ++ answer_of answer ∷ [] = map-append (λ (l : ℕ × Found). answer_of l.1) lines line in
    rw (take_more targets k 0 less) (record {
      in_order = map-append (λ (l : ℕ × Found). l.0) lines line ∙ ap (λ (l : List ℕ). l ++ t ∷ []) h.in_order;
      answers = rw (pairs, answers) (answers_both P g front ((s, t) ∷ []) (answers_in lines) (answer_of answer ∷ []) h.answers (is, tt));
    })

-- ## What a row tells

rows_text : (s : ℕ) (lines : List (ℕ × Found)) → flat_map (line_text s) lines ≡ pairs_text word_kind (pairs_from s (targets_in lines)) (answers_in lines)
rows_text s [] = refl
rows_text s (l ∷ lines) = ap (λ (text : List ℕ). line_text s l ++ text) (rows_text s lines)

rows_far : (lines : List (ℕ × Found)) → count_by is_far_line lines ≡ count_by is_too_far (answers_in lines)
rows_far [] = refl
rows_far (l ∷ lines) =
    sum_by-cons (λ (m : ℕ × Found). cond (is_far_line m) 1 0) l lines
    ∙ (ap (λ (n : ℕ). cond (is_far_line l) 1 0 + n) (rows_far lines) ∙ sym (sum_by-cons (λ (a : PairAnswer). cond (is_too_far a) 1 0) (answer_of l.1) (answers_in lines)))

tells : (s : ℕ) (targets : List ℕ) (row : Row) → row.source ≡ s → targets_in row.lines.items ≡ targets → told_of_row row ≡ told_pairs (pairs_from s targets) (answers_in row.lines.items)
tells s targets row source are =
    let lines = row.lines.items in
    let count : length lines ≡ length (pairs_from row.source (targets_in lines)) = sym (length-map (targets_in lines) (λ (v : ℕ). (row.source, v)) ∙ length-map lines (λ (l : ℕ × Found). l.0)) in
    rw (← source, ← are, count, rows_far lines, rows_text row.source lines) refl

-- The row of a source tells what is due.
pub row_due : (P : ℕ) (g : Graph) (s : ℕ) (targets : List ℕ) (row : Row) → length targets ≤ 1048576 → IsRow P g s targets row → IsDue (λ s told. IsRowTold P g targets s told) s (told_of_row row)
row_due P g s targets row few is =
    let lines = row.lines.items in
    let size : length lines ≡ length targets = sym (length-map lines (λ (l : ℕ × Found). l.0)) ∙ ap length is.lines.in_order in
    record {
      answers = record { answers = answers_in lines; are = is.lines.answers; tells = tells s targets row is.source is.lines.in_order };
      few = omega (arith, size, few);
      far = count_by-le-length is_far_line lines;
    }

-- ## Rows written

one_text : (row : Row) → told_text (told_of_row row ∷ []) ≡ flat_map (line_text row.source) row.lines.items
one_text row = append-nil (flat_map (line_text row.source) row.lines.items)

-- A row was written.
pub row_written : {W : Type 0} (device : Writer W) (row : Row) (old new : W) (count far bytes : ℕ) → count ≡ length row.lines.items → far ≡ count_by is_far_line row.lines.items → Appends (device.written old) (device.written new) (flat_map (line_text row.source) row.lines.items) × (bytes ≡ length (flat_map (line_text row.source) row.lines.items))
    → (device.passed new ≡ device.passed old + bytes) × (0 < bytes → device.passed new ≤ 2 ^ 62) → IsWritten device (told_of_row row ∷ []) old (record { sources = count; too_far = far; bytes = bytes }) new
row_written device row old new count far bytes whole is (wrote, size) (went, small) = record {
  wrote = rw (one_text row) wrote;
  counted = record { sources = omega (arith, whole); too_far = omega (arith, is); bytes = rw (one_text row) size };
  went = went;
  small = small;
}

-- A row was begun.
pub row_begun : {W : Type 0} (device : Writer W) (row : Row) (old new : W) → IsBegun (flat_map (line_text row.source) row.lines.items) (device.written old) (device.written new) × (device.has_failed new ≡ true)
    → IsBegun (told_text (told_of_row row ∷ [])) (device.written old) (device.written new) × (device.has_failed new ≡ true)
row_begun device row old new (begun, failed) = (rw (one_text row) begun, failed)
