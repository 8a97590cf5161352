-- Texts that are sent piece by piece.
use Rattle.std.proofs.Common.{◌≡◌, ℕ, suc, ◌+◌, ◌<◌, List, [], ◌∷◌, ◌++◌, length, take, get_or, refl, sym, ap, ◌∙◌, append_assoc, arith, add-zero, length-take}
use Rattle.std.proofs.lemmas.List.{append-nil, take_more}
use Rattle.std.specs.List.{flat_map}
use Rattle.sp_word.specs.Word.{Word}
use Rattle.sp_machine.specs.declared.report.Finished.{Finished}
use Rattle.sp_machine.specs.declared.report.Report.{Report}
use Rattle.sp_replay.specs.ReportText.{call_text, reached_text, reached_from, totals_text, closed_text, report_text}

reached-append : (vertex : ℕ) (xs ys : List Word) → reached_from vertex (xs ++ ys) ≡ reached_from vertex xs ++ reached_from (vertex + length xs) ys
reached-append vertex [] ys = ap (λ (v : ℕ). reached_from v ys) (sym (add-zero vertex))
reached-append vertex (x ∷ xs) ys =
    let more : vertex + 1 + length xs ≡ vertex + suc (length xs) = omega arith in
    ap (λ (t : List ℕ). reached_text vertex x ++ t) (reached-append (vertex + 1) xs ys ∙ ap (λ (v : ℕ). reached_from (vertex + 1) xs ++ reached_from v ys) more)
    ∙ sym (append_assoc (reached_text vertex x) (reached_from (vertex + 1) xs) (reached_from (vertex + suc (length xs)) ys))

length_front : {A : Type 0} (xs : List A) (i : ℕ) → i < length xs → length (take i xs) ≡ i
length_front xs i within = omega (arith, length-take i xs)

-- The word at place i is that of vertex i + 1.
reached_more : (words : List Word) (i : ℕ) (x : Word) → i < length words → x ≡ get_or words i x → reached_from 1 (take (i + 1) words) ≡ reached_from 1 (take i words) ++ reached_text (i + 1) x
reached_more words i x within is =
    let vertex : 1 + length (take i words) ≡ i + 1 = omega (arith, length_front words i within) in
    ap (reached_from 1) (take_more words i x within)
    ∙ (reached-append 1 (take i words) (get_or words i x ∷ []) ∙ ap (λ (t : List ℕ). reached_from 1 (take i words) ++ t) (append-nil (reached_text (1 + length (take i words)) (get_or words i x)) ∙ rw (vertex, ← is) refl))

pub reached_next : (front : List ℕ) (words : List Word) (i : ℕ) (x : Word) → i < length words → x ≡ get_or words i x → front ++ reached_from 1 (take (i + 1) words) ≡ (front ++ reached_from 1 (take i words)) ++ reached_text (i + 1) x
reached_next front words i x within is = ap (λ (t : List ℕ). front ++ t) (reached_more words i x within is) ∙ sym (append_assoc front (reached_from 1 (take i words)) (reached_text (i + 1) x))

-- The parts of a report's text.
pub report_is : {P : ℕ} (r : Report P) (calls : List (Finished P)) (words : List Word) → calls ≡ r.calls.items → words ≡ r.words.items → report_text r ≡ (flat_map call_text calls ++ reached_from 1 words) ++ (totals_text r.wins r.losses ++ closed_text r.closed)
unfolding report_text
report_is r calls words is are = rw (is, are) (append_assoc (flat_map call_text r.calls.items ++ reached_from 1 r.words.items) (totals_text r.wins r.losses) (closed_text r.closed))
