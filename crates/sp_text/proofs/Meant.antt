-- The first fault is the first, and a text is its lines.
use Rattle.std.proofs.Common.{◌≡◌, ◌≢◌, ℕ, zero, suc, ◌+◌, ◌<◌, Bool, true, false, eqb, List, [], ◌∷◌, ◌++◌, length, take, get_or, Option, Some, None, refl, sym, ap, subst, ◌∙◌, append_assoc, length-append, arith}
use Rattle.std.proofs.lemmas.List.{append-nil}
use Rattle.std.proofs.lemmas.Bool.{eqb-true, eqb-false}
use Rattle.std.specs.List.{flat_map}
use Rattle.sp_text.specs.declared.faults.Kind.{Kind}
use Rattle.sp_text.specs.declared.faults.DimacsError.{DimacsError}
use Rattle.sp_text.specs.Lines.{cut, ended, rest}
use Rattle.sp_text.specs.First.{Judge, or_at, line_fault, first_after, first_fault}
use Rattle.sp_text.specs.Meaning.{IsFirstFault, HasNoLf, IsCut}
use Rattle.sp_text.proofs.LineCuts.{front_byte}

-- behind some lines before
record Later (rules : Judge) (before more : List (List ℕ)) (e : DimacsError) : Type 0 where
  place : ℕ
  within : place < length more
  line : e.line ≡ length before + place + 1
  fault : line_fault rules (before ++ take place more) (get_or more place []) ≡ Some e.kind
  none_before : (j : ℕ) → j < place → line_fault rules (before ++ take j more) (get_or more j []) ≡ None

here : (rules : Judge) (before : List (List ℕ)) (x : List ℕ) (more : List (List ℕ)) (kind : Kind) (e : DimacsError) → line_fault rules before x ≡ Some kind → ◌≡◌ {A = Option DimacsError} (Some (record { line = length before + 1; kind = kind })) (Some e) → Later rules before (x ∷ more) e
here rules before x more kind e is same =
    let same_line : e.line ≡ length before + 1 = cc in
    let same_kind : kind ≡ e.kind = cc in
    record {
      place = 0;
      within = omega arith;
      line = omega arith;
      fault = rw (append-nil before) (is ∙ ap (λ (k : Kind). Some k) same_kind);
      none_before = λ j h. absurd (omega arith);
    }

next_none : (rules : Judge) (before : List (List ℕ)) (x : List ℕ) (more : List (List ℕ)) (place : ℕ) → line_fault rules before x ≡ None
    → ((j : ℕ) → j < place → line_fault rules ((before ++ x ∷ []) ++ take j more) (get_or more j []) ≡ None)
    → (j : ℕ) → j < suc place → line_fault rules (before ++ take j (x ∷ more)) (get_or (x ∷ more) j []) ≡ None
next_none rules before x more place none later zero h = rw (append-nil before) none
next_none rules before x more place none later (suc j) h = rw (← append_assoc before (x ∷ []) (take j more)) (later j (omega arith))

next : (rules : Judge) (before : List (List ℕ)) (x : List ℕ) (more : List (List ℕ)) (e : DimacsError) → line_fault rules before x ≡ None → Later rules (before ++ x ∷ []) more e → Later rules before (x ∷ more) e
next rules before x more e none later = record {
  place = suc later.place;
  within = omega (arith, later.within);
  line = later.line ∙ omega (arith, length-append before (x ∷ []));
  fault = rw (← append_assoc before (x ∷ []) (take later.place more)) later.fault;
  none_before = next_none rules before x more later.place none later.none_before;
}

by_fault : (rules : Judge) (before : List (List ℕ)) (x : List ℕ) (more : List (List ℕ)) (e : DimacsError) (f : Option Kind) → line_fault rules before x ≡ f
    → or_at (length before + 1) f (first_after rules (before ++ x ∷ []) more) ≡ Some e
    → (first_after rules (before ++ x ∷ []) more ≡ Some e → Later rules (before ++ x ∷ []) more e)
    → Later rules before (x ∷ more) e
by_fault rules before x more e None is h later = next rules before x more e is (later h)
by_fault rules before x more e (Some kind) is h later = here rules before x more kind e is h

found : (rules : Judge) (before more : List (List ℕ)) (e : DimacsError) → first_after rules before more ≡ Some e → Later rules before more e
unfolding first_after
found rules before [] e h = cc
found rules before (x ∷ more) e h = by_fault rules before x more e (line_fault rules before x) refl h (found rules (before ++ x ∷ []) more e)

pub is_first : (rules : Judge) (all : List (List ℕ)) (e : DimacsError) → first_fault rules all ≡ Some e → IsFirstFault rules all e
is_first rules all e h =
    let later = found rules [] all e h in
    record { place = later.place; within = later.within; line = omega (arith, later.line); fault = later.fault; none_before = later.none_before }

-- One byte more in front.
push_other : (bytes : List ℕ) (b : ℕ) → HasNoLf bytes → b ≢ 10 → HasNoLf (bytes ++ b ∷ [])
push_other [] b all other = (other, tt)
push_other (x ∷ bytes) b all other = (all.0, push_other bytes b all.1 other)

cut_by : (is_lf : Bool) (b : ℕ) (line bytes : List ℕ) → eqb b 10 ≡ is_lf → HasNoLf line
    → IsCut bytes (cut [] bytes).0 (cut [] bytes).1
    → (b ≢ 10 → IsCut ((line ++ b ∷ []) ++ bytes) (cut (line ++ b ∷ []) bytes).0 (cut (line ++ b ∷ []) bytes).1)
    → IsCut (line ++ b ∷ bytes) (front_byte is_lf line (cut [] bytes) (cut (line ++ b ∷ []) bytes)).0 (front_byte is_lf line (cut [] bytes) (cut (line ++ b ∷ []) bytes)).1
cut_by true b line bytes is none closed open_line =
    let lf : b ≡ 10 = eqb-true b 10 is in
    record {
      whole = rw lf (sym (append_assoc line (10 ∷ []) bytes) ∙ (ap (λ (t : List ℕ). line ++ 10 ∷ [] ++ t) closed.whole ∙ sym (append_assoc (line ++ 10 ∷ []) (flat_map (λ l. l ++ 10 ∷ []) (cut [] bytes).0) (cut [] bytes).1)));
      lines = (none, closed.lines);
      rest = closed.rest;
    }
cut_by false b line bytes is none closed open_line = subst (λ (t : List ℕ). IsCut t (cut (line ++ b ∷ []) bytes).0 (cut (line ++ b ∷ []) bytes).1) (append_assoc line (b ∷ []) bytes) (open_line (eqb-false b 10 is))

cut_is : (line bytes : List ℕ) → HasNoLf line → IsCut (line ++ bytes) (cut line bytes).0 (cut line bytes).1
cut_is line [] none = record { whole = append-nil line; lines = tt; rest = none }
cut_is line (b ∷ bytes) none = cut_by (eqb b 10) b line bytes refl none (cut_is [] bytes tt) (λ other. cut_is (line ++ b ∷ []) bytes (push_other line b none other))

pub text_is : (text : List ℕ) → IsCut text (ended text) (rest text)
unfolding ended rest
text_is text = cut_is [] text tt
