-- Parts of a text, and a text in pieces.
use Rattle.std.proofs.Common.{◌≡◌, ℕ, ◌+◌, ◌-◌, ◌^◌, ◌≤◌, List, [], ◌∷◌, ◌++◌, length, take, drop, Some, refl, sym, ap, ◌∙◌, append_assoc, arith, length-append, length-drop, inl, inr}
use Rattle.std.specs.Prelude.{slice_range, Result, Ok, Err}
use Rattle.std.proofs.Math.Seq.{take-append_seam, take-append-add}
use Rattle.std.proofs.lemmas.List.{take-append-drop, length-take-le, take_rest}
use Rattle.sp_text.specs.declared.faults.DimacsError.{DimacsError}
use Rattle.sp_text.specs.declared.formats.Ranges.{Ranges}
use Rattle.sp_text.specs.declared.feeding.Feeder.{Feeder}
use Rattle.sp_text.specs.Lines.{ended, rest}
use Rattle.sp_text.specs.Meaning.{HasNoLf, IsFirstLine}
use Rattle.sp_text.specs.Formats.{Format}
use Rattle.sp_text.specs.First.{Judge}
use Rattle.sp_text.specs.Text.{ItemLine, problem_of, items_of}
use Rattle.sp_text.specs.Feeding.{Fed, Refused, Finished}
use Rattle.sp_text.specs.Whole.{ReadOn}
use Rattle.sp_device.specs.declared.devices.Read.{Ghosts as Device}
use Rattle.std.specs.Io.KnownBytes.{Consumes, IsAtEnd}
use Rattle.sp_text.specs.Plain.{IsPlain, AreRead}
use Rattle.sp_parts.specs.Parts.{IsPartOf}
use Rattle.sp_text.proofs.LineCuts.{ended_at_lf, rest_at_lf, ended_at_run, rest_at_run}
use Rattle.sp_text.proofs.Behind.{ended-append, refused_earlier, refusal_lasts, more_ended, lf_whole}
use Rattle.sp_text.proofs.PlainLines.{problem_stays, read_push}

-- 1. Whole lines of a text.

pub line_ended : (block line : List ℕ) → HasNoLf line → rest block ≡ [] → ended (block ++ line ++ 10 ∷ []) ≡ ended block ++ line ∷ []
line_ended block line none whole = ended_at_lf (block ++ line) ∙ rw (ended_at_run block line none, rest_at_run block line none, whole) refl

-- What was read of a text from a place on: some whole lines, behind which these bytes stand.
pub record IsRead {K : Type 0} (format : Format) (ranges : Ranges) (Kept : K → List ItemLine → Type 0) (ps text : List ℕ) (from : ℕ) (more : List ℕ) (keep : K) (lines : ℕ) : Type 0 where
  pub block : List ℕ
  pub parts : drop from text ≡ block ++ more
  pub whole : rest block ≡ []
  pub read : AreRead format ranges Kept ps (ended block) keep lines
  pub fewer : lines ≤ length block

pub read_on : {K : Type 0} (format : Format) (ranges : Ranges) (Kept : K → List ItemLine → Type 0) (ps text : List ℕ) (from : ℕ) (bytes more line : List ℕ) (old new : K) (lines : ℕ)
    → IsRead format ranges Kept ps text from bytes old lines → IsFirstLine bytes line more → IsPlain format ranges ps line → ((all : List (List ℕ)) → Kept old (items_of format all) → Kept new (items_of format (all ++ line ∷ [])))
    → IsRead format ranges Kept ps text from more new (lines + 1)
read_on format ranges Kept ps text from bytes more line old new lines h first plain keeps = record {
  block = h.block ++ line ++ 10 ∷ [];
  parts = h.parts ∙ sym (lf_whole h.block bytes line more first.1);
  whole = rest_at_lf (h.block ++ line);
  read = rw (line_ended h.block line first.0 h.whole) (read_push format ranges Kept ps (ended h.block) line old new lines h.read plain (keeps (ended h.block)));
  fewer = omega (arith, h.fewer, length-append (h.block ++ line) (10 ∷ []), length-append h.block line);
}

-- There are no more lines than bytes.
pub read_few : {K : Type 0} (format : Format) (ranges : Ranges) (Kept : K → List ItemLine → Type 0) (ps text : List ℕ) (from : ℕ) (more : List ℕ) (keep : K) (lines : ℕ) → IsRead format ranges Kept ps text from more keep lines → lines + length more ≤ length text
read_few format ranges Kept ps text from more keep lines h =
    omega (arith, h.fewer, length-drop from text, ap length h.parts, length-append h.block more)

pub read_nothing : {K : Type 0} (format : Format) (ranges : Ranges) (Kept : K → List ItemLine → Type 0) (ps text : List ℕ) (from : ℕ) (more : List ℕ) (keep : K) → more ≡ drop from text → Kept keep [] → IsRead format ranges Kept ps text from more keep 0
unfolding ended rest items_of
read_nothing format ranges Kept ps text from more keep is kept = record {
  block = [];
  parts = sym is;
  whole = refl;
  read = record { plain = tt; kept = kept; is_number = refl };
  fewer = omega arith;
}

part_block : (text block more : List ℕ) (from : ℕ) → from ≤ length text → drop from text ≡ block ++ more → slice_range text from (length text - length more) ≡ block
part_block text block more from within parts =
    let long : length text - from ≡ length block + length more = sym (length-drop from text) ∙ (ap length parts ∙ length-append block more) in
    let size : (length text - length more) - from ≡ length block = omega arith in
    ap (λ (n : ℕ). take n (drop from text)) size ∙ (ap (take (length block)) parts ∙ take-append_seam block more)

pub part_made : {K : Type 0} (format : Format) (ranges : Ranges) (Kept : K → List ItemLine → Type 0) (ps text : List ℕ) (from : ℕ) (more : List ℕ) (keep : K) (lines : ℕ) → from ≤ length text → IsRead format ranges Kept ps text from more keep lines
    → IsPartOf format ranges Kept ps text (record { keep = keep; lines = lines; from = from; to = length text - length more })
part_made format ranges Kept ps text from more keep lines within h =
    let is = part_block text h.block more from within h.parts in
    let long : length text - from ≡ length h.block + length more = sym (length-drop from text) ∙ (ap length h.parts ∙ length-append h.block more) in
    record {
      order = omega arith;
      within = omega arith;
      block = record { whole = rw is h.whole; read = rw is h.read };
    }

-- 2. A text up to a place.

pub take_slice : (text : List ℕ) (from to : ℕ) → from ≤ to → to ≤ length text → take from text ++ slice_range text from to ≡ take to text
take_slice text from to order within =
    let size : length (take from text) + (to - from) ≡ to = omega (arith, length-take-le from text (omega arith)) in
    sym (take-append-add (take from text) (drop from text) (to - from)) ∙ (ap (λ (t : List ℕ). take (length (take from text) + (to - from)) t) (take-append-drop from text) ∙ ap (λ (n : ℕ). take n text) size)

pub front_slice : (front text : List ℕ) (from to : ℕ) → from ≤ to → to ≤ length text → front ++ take from text ++ slice_range text from to ≡ front ++ take to text
front_slice front text from to order within = append_assoc front (take from text) (slice_range text from to) ∙ ap (λ (t : List ℕ). front ++ t) (take_slice text from to order within)

pub front_short : (front text : List ℕ) (to : ℕ) → to ≤ length text → length (front ++ text) ≤ 2 ^ 62 → length (front ++ take to text) ≤ 2 ^ 62
front_short front text to within small = omega (arith, length-append front text, length-append front (take to text), length-take-le to text within)

pub problem_lasts : (format : Format) (ps front more : List ℕ) → problem_of format (ended front) ≡ Some ps → problem_of format (ended (front ++ more)) ≡ Some ps
problem_lasts format ps front more is = let later = ended-append front more in rw later.1 (problem_stays format ps (ended front) later.0 is)

pub front_refused : (judge : Judge) (front text : List ℕ) (done to : ℕ) (e : DimacsError) → Refused judge (ended (front ++ take done text)) (front ++ take to text) e → Refused judge (ended front) (front ++ text) e
front_refused judge front text done to e told =
    let early = refused_earlier judge (ended front) (ended (front ++ take done text)) (front ++ take to text) e (more_ended front (take done text)) told in
    let whole : front ++ take to text ++ drop to text ≡ front ++ text = append_assoc front (take to text) (drop to text) ∙ ap (λ (t : List ℕ). front ++ t) (take-append-drop to text) in
    rw (← whole) (refusal_lasts judge (ended front) (front ++ take to text) (drop to text) e early)

-- 3. A piece in two.

pub two_parts : (text piece : List ℕ) (k : ℕ) → text ++ take k piece ++ drop k piece ≡ text ++ piece
two_parts text piece k = append_assoc text (take k piece) (drop k piece) ∙ ap (λ (t : List ℕ). text ++ t) (take-append-drop k piece)

pub tail_slice : (front text : List ℕ) (done : ℕ) → front ++ take done text ++ slice_range text done (length text) ≡ front ++ text
tail_slice front text done = rw (take_rest text done) (two_parts front text done)

pub fed_earlier : {T U : Type 0} (judge : Judge) (After : T → List (List ℕ) → Type 0) (text head all : List ℕ) (result : Result U DimacsError) (new : Feeder T) → Fed judge After (ended (text ++ head)) all result new → Fed judge After (ended text) all result new
fed_earlier judge After text head all (Ok u) new fed = fed
fed_earlier judge After text head all (Err e) new (spent, refused) = (spent, refused_earlier judge (ended text) (ended (text ++ head)) all e (more_ended text head) refused)

-- The device has ended behind a text that came.
pub finished_on : {T R V : Type 0} (judge : Judge) (After : T → List (List ℕ) → Type 0) (Spelled : List (List ℕ) → V → Type 0) (r : Device R) (text : List ℕ) (old : R) (result : Result V DimacsError) (new : R) (reader : Feeder T)
    → Consumes (r.left old) (r.left new) text → IsAtEnd (r.left new) → Finished judge After Spelled text result reader → ReadOn judge Spelled r old result new
finished_on judge After Spelled r text old (Ok value) new reader came end (clean, spelled, behind) = (text, came, end, clean, spelled)
finished_on judge After Spelled r text old (Err e) new reader came end (spent, told) = (text, came, inr (inl (end, told)))
