-- A line more that is given.
use Rattle.std.proofs.Common.{◌≡◌, ℕ, eqb, None, Some, ◌+◌, ◌-◌, ◌^◌, ◌<◌, ◌≤◌, Bool, true, false, List, [], ◌∷◌, ◌++◌, length, min, Option, Ok, Err, refl, sym, ap, subst, ◌∙◌, inl, inr, ◌⊎◌, append_assoc, arith}
use Rattle.std.proofs.lemmas.List.{append-nil, length_push}
use Rattle.std.specs.Prelude.{slice_get}
use Rattle.std.specs.Io.KnownBytes.{Consumes, IsAtEnd}
use Rattle.std.proofs.KnownBytes.{Consumes-trans}
use Rattle.sp_device.specs.declared.devices.Read.{Ghosts as Reader}
use Rattle.sp_text.specs.declared.faults.Kind.{Kind}
use Rattle.sp_text.specs.declared.faults.Kind.TheVariants.{LongLine, Read}
use Rattle.sp_text.specs.declared.faults.DimacsError.{DimacsError}
use Rattle.sp_text.specs.Lines.{cut, ended, rest, lines, last_line}
use Rattle.sp_text.specs.Meaning.{HasNoLf}
use Rattle.sp_text.proofs.LineCuts.{cut-append, front_byte, ended_at_run, rest_at_run, ended_at_lf, rest_at_lf}
use Rattle.sp_text.proofs.Behind.{last_open}
use Rattle.sp_dimacs.specs.declared.lines.Lines.{Lines}
use Rattle.sp_dimacs.specs.declared.lines.State.{State}
use Rattle.sp_dimacs.specs.declared.lines.State.TheVariants.{Going, Over, Refused}
use Rattle.sp_dimacs.specs.LineReading.{LineRead}
use Rattle.sp_dimacs.specs.Giving.{AreEnded, IsLast, AreAll, Stands, IsBehindLines, IsNext, IsRefused, Gave, IsFaulty, IsFaultOf, Counted}

-- The bytes behind ended lines, with more of them.
came : (start old left : Option (List ℕ)) (behind waits more front after : List ℕ) → Consumes start old (behind ++ waits) → Consumes old left more → waits ++ more ≡ front ++ after → Consumes start left ((behind ++ front) ++ after)
came start old left behind waits more front after first second is =
    let same : (behind ++ waits) ++ more ≡ (behind ++ front) ++ after = append_assoc behind waits more ∙ (ap (λ (t : List ℕ). behind ++ t) is ∙ sym (append_assoc behind front after)) in
    subst (Consumes start left) same (Consumes-trans start old left (behind ++ waits) more first second)

whole : (start old left : Option (List ℕ)) (behind waits more front : List ℕ) → Consumes start old (behind ++ waits) → Consumes old left more → waits ++ more ≡ front → Consumes start left (behind ++ front)
whole start old left behind waits more front first second is =
    let same : (behind ++ waits) ++ more ≡ behind ++ front = append_assoc behind waits more ∙ ap (λ (t : List ℕ). behind ++ t) is in
    subst (Consumes start left) same (Consumes-trans start old left (behind ++ waits) more first second)

ended_run : (behind run : List ℕ) (given : List (List ℕ)) → ended behind ≡ given → HasNoLf run → ended (behind ++ run) ≡ given
ended_run behind run given is none = ended_at_run behind run none ∙ is

rest_run : (behind run : List ℕ) → rest behind ≡ [] → HasNoLf run → rest (behind ++ run) ≡ run
rest_run behind run is none = rest_at_run behind run none ∙ ap (λ (t : List ℕ). t ++ run) is

ended_line : (behind line : List ℕ) (given : List (List ℕ)) → ended behind ≡ given → rest behind ≡ [] → HasNoLf line → ended ((behind ++ line) ++ 10 ∷ []) ≡ given ++ line ∷ []
ended_line behind line given is none free = ended_at_lf (behind ++ line) ∙ rw (ended_run behind line given is free, rest_run behind line none free) refl

line_after : (behind line after : List ℕ) → (behind ++ line) ++ 10 ∷ after ≡ ((behind ++ line) ++ 10 ∷ []) ++ after
line_after behind line after = sym (append_assoc (behind ++ line) (10 ∷ []) after)

lines_last : (text line : List ℕ) (given : List (List ℕ)) → ended text ≡ given → rest text ≡ line → 0 < length line → lines text ≡ given ++ line ∷ []
unfolding lines
lines_last text line given is open_line some = rw (is, open_line, last_open line some) refl

lines_none : (text : List ℕ) (given : List (List ℕ)) → ended text ≡ given → rest text ≡ [] → lines text ≡ given
unfolding lines
lines_none text given is none = rw (is, none) (append-nil given)

one_more : (given : List (List ℕ)) (line : List ℕ) (number : ℕ) → number ≡ min (length given) (2 ^ 64 - 1) → min (number + 1) (2 ^ 64 - 1) ≡ min (length (given ++ line ∷ [])) (2 ^ 64 - 1)
one_more given line number is = omega (arith, length_push given line)

module _ {R : Type 0} (r : Reader R) (start : Option (List ℕ)) (given : List (List ℕ)) where
  -- the ended lines of a reader that goes on
  ended_of : (old : Lines R) → IsBehindLines r start given old → old.state ≡ Going → AreEnded r start given old
  ended_of old h going = subst (Stands r start given old) going h.stands

  with_lf : (old mid new : Lines R) → IsBehindLines r start given old → old.state ≡ Going → mid.number ≡ old.number → mid.state ≡ Going
      → LineRead r old.reader mid.reader old.piece (Ok true) mid.piece mid.room → length mid.room ≤ 1024
      → new ≡ record mid { has_end = true; number = min (mid.number + 1) (2 ^ 64 - 1) } → Gave r start given new.room (Ok true) new
  with_lf old mid new h going same goes (more, second, (free, is)) short counted =
      let before = ended_of old h going in
      let front = before.behind ++ mid.room in
      let all = came start (r.left old.reader) (r.left mid.reader) before.behind old.piece more mid.room (10 ∷ mid.piece) before.came second is in
      let now : AreEnded r start (given ++ mid.room ∷ []) (record mid { has_end = true; number = min (mid.number + 1) (2 ^ 64 - 1) }) = record {
        behind = front ++ 10 ∷ [];
        came = subst (Consumes start (r.left mid.reader)) (line_after before.behind mid.room mid.piece) all;
        ended = ended_line before.behind mid.room given before.ended before.whole free;
        whole = rest_at_lf front;
      } in
      rw counted (record { number = one_more given mid.room mid.number (same ∙ h.number); stands = subst (Stands r start (given ++ mid.room ∷ []) (record mid { has_end = true; number = min (mid.number + 1) (2 ^ 64 - 1) })) (sym goes) now }, now, short)

  without_lf : (old mid new : Lines R) → IsBehindLines r start given old → old.state ≡ Going → mid.number ≡ old.number
      → LineRead r old.reader mid.reader old.piece (Ok false) mid.piece mid.room → length mid.room ≤ 1024 → 0 < length mid.room
      → new ≡ record mid { has_end = false; number = min (mid.number + 1) (2 ^ 64 - 1); state = Over } → Gave r start given new.room (Ok true) new
  without_lf old mid new h going same (more, second, (free, is, none, end)) short some counted =
      let before = ended_of old h going in
      let text = before.behind ++ mid.room in
      let all = whole start (r.left old.reader) (r.left mid.reader) before.behind old.piece more mid.room before.came second is in
      let ends = ended_run before.behind mid.room given before.ended free in
      let open_line = rest_run before.behind mid.room before.whole free in
      rw counted (
        record { number = one_more given mid.room mid.number (same ∙ h.number); stands = record { text = text; came = all; all = end; lines = lines_last text mid.room given ends open_line some } },
        (record { text = text; came = all; all = end; ended = ends; open_line = open_line }, some),
        short,
      )

  without_line : (old mid new : Lines R) → IsBehindLines r start given old → old.state ≡ Going → mid.number ≡ old.number
      → LineRead r old.reader mid.reader old.piece (Ok false) mid.piece mid.room → mid.room ≡ []
      → new ≡ record mid { state = Over } → Gave r start given new.room (Ok false) new
  without_line old mid new h going same (more, second, (free, is, none, end)) empty counted =
      let before = ended_of old h going in
      let text = before.behind ++ mid.room in
      let all = whole start (r.left old.reader) (r.left mid.reader) before.behind old.piece more mid.room before.came second is in
      let ends = ended_run before.behind mid.room given before.ended free in
      let now : AreAll r start given (record mid { state = Over }) = record { text = text; came = all; all = end; lines = lines_none text given ends (rest_run before.behind mid.room before.whole free ∙ empty) } in
      rw counted (record { number = same ∙ h.number; stands = now }, now)

  pub count_gave : (old mid new : Lines R) (has_end is_line : Bool) → IsBehindLines r start given old → old.state ≡ Going → mid.number ≡ old.number → mid.state ≡ Going
      → LineRead r old.reader mid.reader old.piece (Ok has_end) mid.piece mid.room → length mid.room ≤ 1024
      → Counted mid has_end is_line new → Gave r start given new.room (Ok is_line) new
  count_gave old mid new true false h going same goes read short counted = absurd counted
  count_gave old mid new true true h going same goes read short counted = with_lf old mid new h going same goes read short counted
  count_gave old mid new false true h going same goes read short (some, counted) = without_lf old mid new h going same read short some counted
  count_gave old mid new false false h going same goes read short (empty, counted) = without_line old mid new h going same read empty counted

  refused : (old mid : Lines R) (kind : Kind) (s : State) → IsBehindLines r start given old → old.state ≡ Going
      → LineRead r old.reader mid.reader old.piece (Err kind) mid.piece mid.room
      → IsRefused r start given kind (record mid { state = s })
  refused old mid kind s h going (more, second, inl (is, long, after, free, parts, many)) =
      let before = ended_of old h going in
      record {
        front = before.behind ++ long;
        more = after;
        came = came start (r.left old.reader) (r.left mid.reader) before.behind old.piece more long after before.came second parts;
        ended = ended_run before.behind long given before.ended free;
        why = inl (is, rw (rest_run before.behind long before.whole free) many);
      }
  refused old mid kind s h going (more, second, inr (is, free, few, failed)) =
      let before = ended_of old h going in
      record {
        front = before.behind ++ (old.piece ++ more);
        more = [];
        came = came start (r.left old.reader) (r.left mid.reader) before.behind old.piece more (old.piece ++ more) [] before.came second (sym (append-nil (old.piece ++ more)));
        ended = ended_run before.behind (old.piece ++ more) given before.ended free;
        why = inr (is, rw (rest_run before.behind (old.piece ++ more) before.whole free) few, refl, failed);
      }

  pub refuse_gave : (old mid new : Lines R) (kind : Kind) (e : DimacsError) → IsBehindLines r start given old → old.state ≡ Going → mid.number ≡ old.number
      → LineRead r old.reader mid.reader old.piece (Err kind) mid.piece mid.room
      → e ≡ record { line = min (mid.number + 1) (2 ^ 64 - 1); kind = kind } → new ≡ record mid { state = Refused e } → Gave r start given new.room (Err e) new
  refuse_gave old mid new kind e h going same read told is =
      let line : min (mid.number + 1) (2 ^ 64 - 1) ≡ min (length given + 1) (2 ^ 64 - 1) = omega (arith, same, h.number) in
      rw is (refl, rw told line, rw told (refused old mid kind (Refused (record { line = min (mid.number + 1) (2 ^ 64 - 1); kind = kind })) h going read))

  -- the line that is lent is the one in the room
  pub lent : (room line : List ℕ) (is_line : Bool) (new : Lines R) → is_line ≡ true → line ≡ room → Gave r start given room (Ok is_line) new → Gave r start given line (Ok true) new
  lent room line is_line new is same h =
      subst (λ (l : List ℕ). Gave r start given l (Ok true) new) (sym same) (subst (λ (b : Bool). Gave r start given room (Ok b) new) is h)

  pub ended_here : (room : List ℕ) (is_line : Bool) (new : Lines R) → is_line ≡ false → Gave r start given room (Ok is_line) new → Gave r start given [] (Ok false) new
  ended_here room is_line new is h = subst (λ (b : Bool). Gave r start given room (Ok b) new) is h

-- What the given lines are of the whole text.

whole_text : (text front : List ℕ) (left : Option (List ℕ)) → Consumes (Some text) left front → (more : List ℕ) × (text ≡ front ++ more)
whole_text text front None h = absurd h
whole_text text front (Some more) h = (more, h)

all_text : (text front : List ℕ) (left : Option (List ℕ)) → Consumes (Some text) left front → IsAtEnd left → text ≡ front
all_text text front None h end = absurd h
all_text text front (Some more) h end = h ∙ (ap (λ (t : List ℕ). front ++ t) end ∙ append-nil front)

lines_front : (front more : List ℕ) → lines (front ++ more) ≡ ended front ++ ((cut (rest front) more).0 ++ last_line (cut (rest front) more).1)
unfolding lines ended rest
lines_front front more =
    ap (λ (c : List (List ℕ) × List ℕ). c.0 ++ last_line c.1) (cut-append [] front more) ∙ append_assoc (cut [] front).0 (cut (cut [] front).1 more).0 (last_line (cut (cut [] front).1 more).1)

at_end : (given : List (List ℕ)) (line : List ℕ) (more : List (List ℕ)) → slice_get (given ++ line ∷ more) (length given) ≡ Some line
at_end [] line more = refl
at_end (x ∷ given) line more = at_end given line more

place_of : (text line : List ℕ) (given more : List (List ℕ)) → lines text ≡ given ++ line ∷ more → slice_get (lines text) (length given) ≡ Some line
place_of text line given more is = rw is (at_end given line more)

-- A line that goes on is at least as long as what came of it.
abbrev Longer : List ℕ → List (List ℕ) × List ℕ → Type 0
Longer r c = (long : List ℕ) × (more : List (List ℕ)) × (c.0 ++ last_line c.1 ≡ long ∷ more) × (length r ≤ length long)

longer_by : (is_lf : Bool) (r : List ℕ) (closed open_line : List (List ℕ) × List ℕ) → Longer r open_line → Longer r (front_byte is_lf r closed open_line)
longer_by true r closed open_line h = (r, closed.0 ++ last_line closed.1, refl, omega arith)
longer_by false r closed open_line h = h

goes_on : (r x : List ℕ) → 0 < length r → Longer r (cut r x)
goes_on r [] some = (r, [], last_open r some, omega arith)
goes_on r (b ∷ x) some =
    let later = goes_on (r ++ b ∷ []) x (omega (arith, length_push r b)) in
    longer_by (eqb b 10) r (cut [] x) (cut (r ++ b ∷ []) x) (later.0, later.1, later.2, omega (arith, later.3, length_push r b))

next_ended : {R : Type 0} (r : Reader R) (text : List ℕ) (given : List (List ℕ)) (line : List ℕ) (new : Lines R) → AreEnded r (Some text) (given ++ line ∷ []) new → slice_get (lines text) (length given) ≡ Some line
next_ended r text given line new h =
    let parts = whole_text text (h.behind ++ new.piece) (r.left new.reader) h.came in
    let c = cut (rest h.behind) (new.piece ++ parts.0) in
    let is : lines text ≡ given ++ line ∷ (c.0 ++ last_line c.1) =
    ap lines (parts.1 ∙ append_assoc h.behind new.piece parts.0) ∙ (lines_front h.behind (new.piece ++ parts.0) ∙ (ap (λ (l : List (List ℕ)). l ++ (c.0 ++ last_line c.1)) h.ended ∙ append_assoc given (line ∷ []) (c.0 ++ last_line c.1))) in
    place_of text line given (c.0 ++ last_line c.1) is

next_last : {R : Type 0} (r : Reader R) (text : List ℕ) (given : List (List ℕ)) (line : List ℕ) (new : Lines R) → IsLast r (Some text) given line new → 0 < length line → slice_get (lines text) (length given) ≡ Some line
next_last r text given line new h some =
    place_of text line given [] (ap lines (all_text text h.text (r.left new.reader) h.came h.all) ∙ lines_last h.text line given h.ended h.open_line some)

by_end : {R : Type 0} (r : Reader R) (text : List ℕ) (given : List (List ℕ)) (line : List ℕ) (new : Lines R) (has_end : Bool) → IsNext r (Some text) given line new has_end → slice_get (lines text) (length given) ≡ Some line
by_end r text given line new true h = next_ended r text given line new h
by_end r text given line new false (h, some) = next_last r text given line new h some

pub next_of : {R : Type 0} (r : Reader R) (text : List ℕ) (given : List (List ℕ)) (line : List ℕ) (new : Lines R) → Gave r (Some text) given line (Ok true) new
    → (slice_get (lines text) (length given) ≡ Some line) × (length line ≤ 1024)
next_of r text given line new (behind, next, short) = (by_end r text given line new new.has_end next, short)

pub none_of : {R : Type 0} (r : Reader R) (text : List ℕ) (given : List (List ℕ)) (line : List ℕ) (new : Lines R) → Gave r (Some text) given line (Ok false) new → lines text ≡ given
none_of r text given line new (behind, all) = ap lines (all_text text all.text (r.left new.reader) all.came all.all) ∙ all.lines

pub fault_of : {R : Type 0} (r : Reader R) (text : List ℕ) (given : List (List ℕ)) (line : List ℕ) (e : DimacsError) (new : Lines R) → Gave r (Some text) given line (Err e) new → IsFaultOf text given e
fault_of r text given line e new (spent, number, refusal) = (number, told refusal.why) where
  told : ((e.kind ≡ LongLine) × (1024 < length (rest refusal.front))) ⊎ ((e.kind ≡ Read) × (length (rest refusal.front) ≤ 1024) × (refusal.more ≡ []) × (r.has_failed new.reader ≡ true)) → IsFaulty text given e.kind
  told (inl (kind, many)) =
      let parts = whole_text text (refusal.front ++ refusal.more) (r.left new.reader) refusal.came in
      let x = refusal.more ++ parts.0 in
      let longer = goes_on (rest refusal.front) x (omega (arith, many)) in
      let is : lines text ≡ given ++ longer.0 ∷ longer.1 =
      ap lines (parts.1 ∙ append_assoc refusal.front refusal.more parts.0) ∙ (lines_front refusal.front x ∙ (ap (λ (l : List (List ℕ)). l ++ ((cut (rest refusal.front) x).0 ++ last_line (cut (rest refusal.front) x).1)) refusal.ended ∙ ap (λ (l : List (List ℕ)). given ++ l) longer.2)) in
      inl (kind, longer.0, place_of text longer.0 given longer.1 is, omega (arith, many, longer.3))
  told (inr (kind, few, none, failed)) = inr kind
