-- A reader that is fed, one byte on.
use Rattle.std.proofs.Common.{⊎_elim, ◌≡◌, ◌≢◌, ℕ, suc, ◌+◌, ◌-◌, ◌%◌, ◌^◌, ◌<◌, ◌≤◌, Bool, true, false, eqb, List, [], ◌∷◌, ◌++◌, length, min, Option, Some, None, Result, Ok, Err, refl, sym, ap, subst, ◌∙◌, inl, inr, ◌⊎◌, append_assoc, arith, length-append}
use Rattle.std.proofs.Math.Nat.{mod-eq_of_lt}
use Rattle.std.proofs.lemmas.List.{append-nil, length_push}
use Rattle.std.proofs.lemmas.Bool.{lt-ltb, le-ltb, cases_eq, false≢true}
use Rattle.sp_text.specs.declared.faults.Kind.{Kind}
use Rattle.sp_text.specs.declared.faults.Kind.TheVariants.{LongLine, TooMany, TooFew, Memory, Read}
use Rattle.sp_text.specs.declared.faults.DimacsError.{DimacsError}
use Rattle.sp_text.specs.declared.feeding.Feeder.{Feeder}
use Rattle.sp_text.specs.Lines.{cut, ended, rest, lines, last_line}
use Rattle.sp_text.specs.Meaning.{HasNoLf}
use Rattle.sp_text.specs.First.{Judge, or_at, line_fault, first_after, first_fault, rest_fault, fault_so_far, fault_at_failure, cut_short, fault_without_end, fault_at_end}
use Rattle.sp_text.specs.Feeding.{IsBehind, Refused, IsMemory, Fed, lines_taken, IsToldOf, IsClosed, Closed}
use Rattle.sp_text.proofs.LineCuts.{cut-append, front_byte, or_else_none, ended_at_lf, rest_at_lf, ended_at_run, rest_at_run, early_at_run, clean_parts, open_while, first_push, early_at_lf, early_at_other, fault_lasts}

-- the fault of the line that is being read
abbrev pub at_line : ℕ → Kind → DimacsError
at_line ends kind = record { line = min (ends + 1) (2 ^ 64 - 1); kind = kind }

-- There are no more lines than bytes.
front_short : (is_lf : Bool) (line : List ℕ) (closed open_line : List (List ℕ) × List ℕ) (n : ℕ) → length closed.0 ≤ n → length open_line.0 ≤ n → length (front_byte is_lf line closed open_line).0 ≤ suc n
front_short true line closed open_line n c o = omega arith
front_short false line closed open_line n c o = omega arith

ended_cut_short : (line text : List ℕ) → length (cut line text).0 ≤ length text
ended_cut_short line [] = omega arith
ended_cut_short line (b ∷ text) = front_short (eqb b 10) line (cut [] text) (cut (line ++ b ∷ []) text) (length text) (ended_cut_short [] text) (ended_cut_short (line ++ b ∷ []) text)

pub ended_short : (text : List ℕ) → length (ended text) ≤ length text
unfolding ended
ended_short text = ended_cut_short [] text

line_is : (text : List ℕ) (ends : ℕ) → length text ≤ 2 ^ 62 → ends ≡ length (ended text) → min (ends + 1) (2 ^ 64 - 1) ≡ length (ended text) + 1
line_is text ends small is = omega (arith, ended_short text)

same_error : (line other : ℕ) (kind : Kind) → other ≡ line → ◌≡◌ {A = Option DimacsError} (Some (record { line = line; kind = kind })) (Some (record { line = other; kind = kind }))
same_error line other kind e = ap (λ (n : ℕ). Some (record { line = n; kind = kind })) (sym e)

pub short_line : (judge : Judge) (before : List (List ℕ)) (line : List ℕ) → judge.closed before ≡ false → length line ≤ 1024 → line_fault judge before line ≡ judge.fault before line
short_line judge before line goes short = rw (goes, le-ltb 1024 (length line) short) refl

-- the fault of the line whose LF comes now
pub early_lf : (judge : Judge) (text : List ℕ) → judge.closed (ended text) ≡ false → fault_so_far judge text ≡ None → fault_so_far judge (text ++ 10 ∷ []) ≡ or_at (length (ended text) + 1) (judge.fault (ended text) (rest text)) None
early_lf judge text goes clean =
    let parts = clean_parts judge text clean in
    early_at_lf judge text ∙ rw (parts.0, short_line judge (ended text) (rest text) goes parts.1) refl

pub next_end : (text : List ℕ) (ends : ℕ) → length text ≤ 2 ^ 62 → ends ≡ length (ended text) → (ends + 1) % 2 ^ 64 ≡ min (ends + 1) (2 ^ 64 - 1)
next_end text ends small is =
    let line = line_is text ends small is in
    mod-eq_of_lt (omega arith) ∙ (ap (λ n. n + 1) is ∙ sym line)

pub lf_ok : {T : Type 0} (judge : Judge) (After : T → List (List ℕ) → Type 0) (text : List ℕ) (old : Feeder T) (taker : T) (room : List ℕ) (ends : ℕ) → length text ≤ 2 ^ 62
    → judge.closed (ended text) ≡ false → IsBehind judge After text old → judge.fault (ended text) old.room ≡ None → After taker (ended text ++ old.room ∷ [])
    → room ≡ [] → ends ≡ min (old.ends + 1) (2 ^ 64 - 1)
    → IsBehind judge After (text ++ 10 ∷ []) (record { taker = taker; room = room; ends = ends; spent = old.spent })
lf_ok judge After text old taker room ends small goes h none taken empty is =
    let full : judge.fault (ended text) (rest text) ≡ None = rw (← h.room) none in
    record {
      going = h.going;
      clean = early_lf judge text goes h.clean ∙ rw full refl;
      room = empty ∙ sym (rest_at_lf text);
      ends = is ∙ (line_is text old.ends small h.ends ∙ (sym (length_push (ended text) (rest text)) ∙ ap length (sym (ended_at_lf text))));
      taken = rw (ended_at_lf text, ← h.room) taken;
    }

pub lf_err : {T : Type 0} (judge : Judge) (After : T → List (List ℕ) → Type 0) (text : List ℕ) (old : Feeder T) (kind : Kind) → length text ≤ 2 ^ 62
    → judge.closed (ended text) ≡ false → IsBehind judge After text old → (judge.fault (ended text) old.room ≡ Some kind) ⊎ ((judge.fault (ended text) old.room ≡ None) × (kind ≡ Memory) × (judge.is_item old.room ≡ true))
    → Refused judge (ended text) (text ++ 10 ∷ []) (at_line old.ends kind)
lf_err judge After text old kind small goes h (inl is) =
    let full : judge.fault (ended text) (rest text) ≡ Some kind = rw (← h.room) is in
    inl (early_lf judge text goes h.clean ∙ (rw full (same_error (length (ended text) + 1) (min (old.ends + 1) (2 ^ 64 - 1)) kind (line_is text old.ends small h.ends))))
lf_err judge After text old kind small goes h (inr memory) =
    let full : judge.fault (ended text) (rest text) ≡ None = rw (← h.room) memory.0 in
    let parts = clean_parts judge text h.clean in
    inr (record {
      kind = memory.1;
      front = ended text;
      line = rest text;
      behind = [];
      parts = ended_at_lf text;
      place = line_is text old.ends small h.ends;
      later = omega arith;
      item = rw (← h.room) memory.2;
      clean = first_push judge (ended text) (rest text) parts.0 ∙ rw (short_line judge (ended text) (rest text) goes parts.1, full) refl;
    })

-- What came of a line that may go on.
rest_fine : (judge : Judge) (before : List (List ℕ)) (r : List ℕ) → judge.closed before ≡ false → length r ≤ 1024 → rest_fault judge before r ≡ None
rest_fine judge before [] goes short = refl
rest_fine judge before (b ∷ r) goes short = rw (goes, le-ltb 1024 (length (b ∷ r)) short) refl

rest_long : (judge : Judge) (before : List (List ℕ)) (r : List ℕ) → judge.closed before ≡ false → 1024 < length r → rest_fault judge before r ≡ Some LongLine
rest_long judge before [] goes long = absurd (omega arith)
rest_long judge before (b ∷ r) goes long = rw (goes, lt-ltb 1024 (length (b ∷ r)) long) refl

pub run_ok : {T : Type 0} (judge : Judge) (After : T → List (List ℕ) → Type 0) (text run : List ℕ) (old : Feeder T) (room : List ℕ) → HasNoLf run
    → judge.closed (ended text) ≡ false → IsBehind judge After text old → length old.room + length run ≤ 1024 → room ≡ old.room ++ run
    → IsBehind judge After (text ++ run) (record { taker = old.taker; room = room; ends = old.ends; spent = old.spent })
run_ok judge After text run old room none goes h short is =
    let fits : length (rest text ++ run) ≤ 1024 = omega (arith, length-append (rest text) run, ap length h.room) in
    record {
      going = h.going;
      clean = early_at_run judge text run none ∙ rw ((clean_parts judge text h.clean).0, rest_fine judge (ended text) (rest text ++ run) goes fits) refl;
      room = is ∙ (rw (h.room, rest_at_run text run none) refl);
      ends = h.ends ∙ ap length (sym (ended_at_run text run none));
      taken = rw (ended_at_run text run none) h.taken;
    }

pub run_open : (judge : Judge) (text run : List ℕ) → HasNoLf run → judge.closed (ended text) ≡ false → judge.closed (ended (text ++ run)) ≡ false
run_open judge text run none goes = rw (ended_at_run text run none) goes

pub run_err : {T : Type 0} (judge : Judge) (After : T → List (List ℕ) → Type 0) (text run : List ℕ) (old : Feeder T) → length text ≤ 2 ^ 62 → HasNoLf run
    → judge.closed (ended text) ≡ false → IsBehind judge After text old → 1024 < length old.room + length run
    → Refused judge (ended text) (text ++ run) (at_line old.ends LongLine)
run_err judge After text run old small none goes h full =
    let long : 1024 < length (rest text ++ run) = omega (arith, length-append (rest text) run, ap length h.room) in
    inl (early_at_run judge text run none ∙ rw ((clean_parts judge text h.clean).0, rest_long judge (ended text) (rest text ++ run) goes long)
    (same_error (length (ended text) + 1) (min (old.ends + 1) (2 ^ 64 - 1)) LongLine (line_is text old.ends small h.ends)))

-- Behind a closed file any byte is one too many.
pub closed_err : {T : Type 0} (judge : Judge) (After : T → List (List ℕ) → Type 0) (text : List ℕ) (b : ℕ) (old : Feeder T) → length text ≤ 2 ^ 62
    → judge.closed (ended text) ≡ true → IsBehind judge After text old → Refused judge (ended text) (text ++ b ∷ []) (at_line old.ends TooMany)
closed_err judge After text b old small closed h = inl (⊎_elim
    (λ (is : b ≡ 10). rw is (early_at_lf judge text ∙ rw ((clean_parts judge text h.clean).0, closed) (same_error (length (ended text) + 1) (min (old.ends + 1) (2 ^ 64 - 1)) TooMany (line_is text old.ends small h.ends))))
    (λ (other : b ≢ 10). early_at_other judge text b other ∙ rw ((clean_parts judge text h.clean).0, closed) (same_error (length (ended text) + 1) (min (old.ends + 1) (2 ^ 64 - 1)) TooMany (line_is text old.ends small h.ends)))
    (cases_eq b 10))

-- A refusal stays, whatever comes.

pub ended-append : (text more : List ℕ) → (later : List (List ℕ)) × (ended (text ++ more) ≡ ended text ++ later)
unfolding ended
ended-append text more = ((cut (cut [] text).1 more).0, ap (λ (c : List (List ℕ) × List ℕ). c.0) (cut-append [] text more))

pub refusal_lasts : (judge : Judge) (before : List (List ℕ)) (text more : List ℕ) (e : DimacsError) → Refused judge before text e → Refused judge before (text ++ more) e
refusal_lasts judge before text more e (inl is) = inl (fault_lasts judge text more e is)
refusal_lasts judge before text more e (inr memory) =
    let later = ended-append text more in
    inr (record {
      kind = memory.kind;
      front = memory.front;
      line = memory.line;
      behind = memory.behind ++ later.0;
      parts = later.1 ∙ (ap (λ (all : List (List ℕ)). all ++ later.0) memory.parts ∙ append_assoc memory.front (memory.line ∷ memory.behind) later.0);
      place = memory.place;
      later = memory.later;
      item = memory.item;
      clean = memory.clean;
    })

-- Of a longer piece fewer lines had ended before.
pub refused_earlier : (judge : Judge) (before more : List (List ℕ)) (text : List ℕ) (e : DimacsError) → length before ≤ length more → Refused judge more text e → Refused judge before text e
refused_earlier judge before more text e fewer (inl is) = inl is
refused_earlier judge before more text e fewer (inr memory) = inr (record {
  kind = memory.kind;
  front = memory.front;
  line = memory.line;
  behind = memory.behind;
  parts = memory.parts;
  place = memory.place;
  later = omega (arith, memory.later);
  item = memory.item;
  clean = memory.clean;
})

-- A longer text has no fewer lines.
pub more_ended : (text more : List ℕ) → length (ended text) ≤ length (ended (text ++ more))
more_ended text more = let later = ended-append text more in omega (arith, ap length later.1, length-append (ended text) later.0)

-- Behind a closed file a run of bytes is too much.
pub closed_run : {T : Type 0} (judge : Judge) (After : T → List (List ℕ) → Type 0) (text run : List ℕ) (old : Feeder T) → length text ≤ 2 ^ 62 → 0 < length run
    → judge.closed (ended text) ≡ true → IsBehind judge After text old → Refused judge (ended text) (text ++ run) (at_line old.ends TooMany)
closed_run judge After text [] old small some closed h = absurd (omega arith)
closed_run judge After text (b ∷ run) old small some closed h =
    rw (← append_assoc text (b ∷ []) run) (refusal_lasts judge (ended text) (text ++ b ∷ []) run (at_line old.ends TooMany) (closed_err judge After text b old small closed h))

pub lf_whole : (text bytes line more : List ℕ) → bytes ≡ line ++ 10 ∷ more → (text ++ line ++ 10 ∷ []) ++ more ≡ text ++ bytes
lf_whole text bytes line more is =
    ap (λ (t : List ℕ). t ++ more) (append_assoc text line (10 ∷ []))
    ∙ (append_assoc text (line ++ 10 ∷ []) more ∙ ap (λ (t : List ℕ). text ++ t) (append_assoc line (10 ∷ []) more ∙ sym is))

-- A line with its LF at once, where none was begun.

-- the reader before the LF
abbrev with_line : {T : Type 0} → Feeder T → List ℕ → Feeder T
with_line old line = record { taker = old.taker; room = line; ends = old.ends; spent = old.spent }

line_short : (text bytes line more : List ℕ) → bytes ≡ line ++ 10 ∷ more → length (text ++ bytes) ≤ 2 ^ 62 → length (text ++ line) ≤ 2 ^ 62
line_short text bytes line more is small = omega (arith, length-append text bytes, length-append text line, ap length is, length-append line (10 ∷ more))

line_open : {T : Type 0} (judge : Judge) (After : T → List (List ℕ) → Type 0) (text line : List ℕ) (old : Feeder T) → HasNoLf line → length line ≤ 1024 → old.room ≡ [] → judge.closed (ended text) ≡ false
    → IsBehind judge After text old → IsBehind judge After (text ++ line) (with_line old line)
line_open judge After text line old none short empty goes h = run_ok judge After text line old line none goes h (omega (arith, ap length empty, short)) (rw empty refl)

pub front_ok : {T : Type 0} (judge : Judge) (After : T → List (List ℕ) → Type 0) (text bytes line more : List ℕ) (old : Feeder T) (taker : T) (ends : ℕ) → bytes ≡ line ++ 10 ∷ more → HasNoLf line → length line ≤ 1024 → old.room ≡ []
    → judge.closed (ended text) ≡ false → length (text ++ bytes) ≤ 2 ^ 62 → IsBehind judge After text old → (judge.fault (ended text) line ≡ None) × After taker (ended text ++ line ∷ []) → ends ≡ (old.ends + 1) % 2 ^ 64
    → IsBehind judge After (text ++ (line ++ 10 ∷ [])) (record { taker = taker; room = old.room; ends = ends; spent = old.spent })
front_ok judge After text bytes line more old taker ends is none short empty goes small h taken ends_is =
    let open_line = line_open judge After text line old none short empty goes h in
    let same : ended (text ++ line) ≡ ended text = ended_at_run text line none in
    let shorter = line_short text bytes line more is small in
    rw (← append_assoc text line (10 ∷ [])) (lf_ok judge After (text ++ line) (with_line old line) taker old.room ends shorter (run_open judge text line none goes) open_line (rw same taken.0) (rw same taken.1) empty
    (ends_is ∙ next_end (text ++ line) old.ends shorter open_line.ends))

pub front_err : {T : Type 0} (judge : Judge) (After : T → List (List ℕ) → Type 0) (text bytes line more : List ℕ) (old : Feeder T) (kind : Kind) → bytes ≡ line ++ 10 ∷ more → HasNoLf line → length line ≤ 1024 → old.room ≡ []
    → judge.closed (ended text) ≡ false → length (text ++ bytes) ≤ 2 ^ 62 → IsBehind judge After text old
    → (judge.fault (ended text) line ≡ Some kind) ⊎ ((judge.fault (ended text) line ≡ None) × (kind ≡ Memory) × (judge.is_item line ≡ true))
    → Refused judge (ended text) (text ++ bytes) (at_line old.ends kind)
front_err judge After text bytes line more old kind is none short empty goes small h told =
    let open_line = line_open judge After text line old none short empty goes h in
    let same : ended (text ++ line) ≡ ended text = ended_at_run text line none in
    let refused = lf_err judge After (text ++ line) (with_line old line) kind (line_short text bytes line more is small) (run_open judge text line none goes) open_line (rw same told) in
    rw (← lf_whole text bytes line more is) (refusal_lasts judge (ended text) (text ++ line ++ 10 ∷ []) more (at_line old.ends kind) (rw same at refused))

-- The end of a text.

pub lines_whole : (text : List ℕ) → rest text ≡ [] → lines text ≡ ended text
unfolding lines
lines_whole text none = rw none (append-nil (ended text))

pub last_open : (r : List ℕ) → 0 < length r → last_line r ≡ r ∷ []
last_open [] some = absurd (omega arith)
last_open (b ∷ r) some = refl

lines_open : (text : List ℕ) → 0 < length (rest text) → lines text ≡ ended (text ++ 10 ∷ [])
unfolding lines
lines_open text some = ap (λ (l : List (List ℕ)). ended text ++ l) (last_open (rest text) some) ∙ sym (ended_at_lf text)

pub closed_whole : {T : Type 0} (judge : Judge) (After : T → List (List ℕ) → Type 0) (text : List ℕ) (old : Feeder T) → IsBehind judge After text old → old.room ≡ [] → IsClosed judge After text old
closed_whole judge After text old h empty =
    let same : lines text ≡ ended text = lines_whole text (sym h.room ∙ empty) in
    record {
      going = h.going;
      clean = rw same (clean_parts judge text h.clean).0;
      room = empty;
      ends = h.ends ∙ ap length (sym same);
      taken = rw same h.taken;
      whole = λ _. sym h.room ∙ empty;
    }

-- A text that ends with an LF has no fault but in its lines.
pub early_whole : (judge : Judge) (text : List ℕ) → rest text ≡ [] → fault_so_far judge text ≡ first_fault judge (ended text)
unfolding fault_so_far
early_whole judge text none = rw none (or_else_none (first_fault judge (ended text)))

told_first : (judge : Judge) (text : List ℕ) (e : DimacsError) → judge.needs_lf ≡ false → first_fault judge (lines text) ≡ Some e → fault_at_end judge text ≡ Some e
unfolding fault_at_end first_after
told_first judge text e lenient is = rw (lenient, is) refl

cut_open : (r : List ℕ) → 0 < length r → cut_short r ≡ Some TooFew
cut_open [] some = absurd (omega arith)
cut_open (b ∷ r) some = refl

-- A line without the LF that it needs.
pub told_unfinished : {T : Type 0} (judge : Judge) (After : T → List (List ℕ) → Type 0) (text : List ℕ) (old : Feeder T) → length text ≤ 2 ^ 62 → judge.needs_lf ≡ true → IsBehind judge After text old → 0 < length old.room
    → IsToldOf judge text (at_line old.ends TooFew)
unfolding fault_at_end fault_so_far first_after
told_unfinished judge After text old small strict h some =
    inl (rw (strict, h.clean, cut_open (rest text) (rw (← h.room) some)) (same_error (length (ended text) + 1) (min (old.ends + 1) (2 ^ 64 - 1)) TooFew (line_is text old.ends small h.ends)))

taken_lines : (needs_lf : Bool) (text : List ℕ) → needs_lf ≡ false → lines_taken needs_lf text ≡ lines text
taken_lines false text lenient = refl
taken_lines true text lenient = cc

pub closed_open : {T U : Type 0} (judge : Judge) (After : T → List (List ℕ) → Type 0) (text : List ℕ) (old new : Feeder T) (result : Result U DimacsError) → judge.needs_lf ≡ false → IsBehind judge After text old → 0 < length old.room
    → Fed judge After (ended text) (text ++ 10 ∷ []) result new → Closed judge After text result new
closed_open judge After text old new (Ok u) lenient h some fed =
    let same : lines text ≡ ended (text ++ 10 ∷ []) = lines_open text (rw (← h.room) some) in
    record {
      going = fed.going;
      clean = rw same (clean_parts judge (text ++ 10 ∷ []) fed.clean).0;
      room = fed.room ∙ rest_at_lf text;
      ends = fed.ends ∙ ap length (sym same);
      taken = rw same fed.taken;
      whole = λ strict. absurd (false≢true (sym lenient ∙ strict));
    }
closed_open judge After text old new (Err e) lenient h some (spent, inl is) =
    let same : lines text ≡ ended (text ++ 10 ∷ []) = lines_open text (rw (← h.room) some) in
    (spent, inl (told_first judge text e lenient (rw same (sym (early_whole judge (text ++ 10 ∷ []) (rest_at_lf text)) ∙ is))))
closed_open judge After text old new (Err e) lenient h some (spent, inr memory) =
    let same : lines text ≡ ended (text ++ 10 ∷ []) = lines_open text (rw (← h.room) some) in
    (spent, inr (subst (λ (all : List (List ℕ)). IsMemory judge (ended text) all e) (sym (taken_lines judge.needs_lf text lenient ∙ same)) memory))

pub failed_here : {T : Type 0} (judge : Judge) (After : T → List (List ℕ) → Type 0) (text : List ℕ) (old : Feeder T) → length text ≤ 2 ^ 62 → IsBehind judge After text old → fault_at_failure judge text ≡ Some (at_line old.ends Read)
unfolding fault_at_failure
failed_here judge After text old small h = rw h.clean (same_error (length (ended text) + 1) (min (old.ends + 1) (2 ^ 64 - 1)) Read (line_is text old.ends small h.ends))

last_short : (r : List ℕ) → length (last_line r) ≤ 1
last_short [] = omega arith
last_short (b ∷ r) = omega arith

lines_short : (text : List ℕ) → length (lines text) ≤ length text + 1
unfolding lines
lines_short text = omega (arith, length-append (ended text) (last_line (rest text)), ended_short text, last_short (rest text))

unfinished_none : (needs_lf : Bool) (judge : Judge) (text : List ℕ) → first_fault judge (lines text) ≡ None → (needs_lf ≡ true → rest text ≡ []) → fault_without_end needs_lf judge text ≡ None
unfinished_none false judge text clean whole = refl
unfinished_none true judge text clean whole =
    let none : rest text ≡ [] = whole refl in
    let in_order : fault_so_far judge text ≡ None = early_whole judge text none ∙ (ap (first_fault judge) (sym (lines_whole text none)) ∙ clean) in
    rw (in_order, none) refl

pub told_none : {T : Type 0} (judge : Judge) (After : T → List (List ℕ) → Type 0) (text : List ℕ) (reader : Feeder T) → IsClosed judge After text reader → judge.missing (lines text) ≡ None → fault_at_end judge text ≡ None
unfolding fault_at_end
told_none judge After text reader h none = rw (unfinished_none judge.needs_lf judge text h.clean h.whole, h.clean, none) refl

pub told_missing : {T : Type 0} (judge : Judge) (After : T → List (List ℕ) → Type 0) (text : List ℕ) (reader : Feeder T) (kind : Kind) → length text ≤ 2 ^ 62 → IsClosed judge After text reader
    → judge.missing (lines text) ≡ Some kind → fault_at_end judge text ≡ Some (at_line reader.ends kind)
unfolding fault_at_end
told_missing judge After text reader kind small h is =
    let line : min (reader.ends + 1) (2 ^ 64 - 1) ≡ length (lines text) + 1 = omega (arith, lines_short text, h.ends) in
    rw (unfinished_none judge.needs_lf judge text h.clean h.whole, h.clean, is) (same_error (length (lines text) + 1) (min (reader.ends + 1) (2 ^ 64 - 1)) kind line)

pub starts : {T : Type 0} (judge : Judge) (After : T → List (List ℕ) → Type 0) (taker : T) (room : List ℕ) (spent : Option DimacsError) → After taker [] → room ≡ [] → spent ≡ None
    → IsBehind judge After [] (record { taker = taker; room = room; ends = 0; spent = spent })
unfolding ended rest fault_so_far first_after
starts judge After taker room spent taken empty going = record { going = going; clean = refl; room = empty; ends = refl; taken = taken }

pub open_behind : {T : Type 0} (judge : Judge) (After : T → List (List ℕ) → Type 0) (text : List ℕ) (old : Feeder T) → IsBehind judge After text old → 0 < length old.room → judge.closed (ended text) ≡ false
open_behind judge After text old h some = open_while judge text h.clean (rw (← h.room) some)
