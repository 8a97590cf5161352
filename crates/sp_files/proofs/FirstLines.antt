-- The first line of a text tells whose rules hold.
use Rattle.std.proofs.Common.{◌≡◌, ℕ, Bool, true, false, not, ◌&&◌, List, [], ◌∷◌, ◌++◌, length, take, codes, Option, Some, None, Result, Ok, Err, inl, inr, refl, sym, ap, subst, ◌∙◌, eqb, ne_eqb, append_assoc, arith}
use Rattle.std.proofs.lemmas.List.Splits.{join_with_byte-slice_split}
use Rattle.std.proofs.lemmas.List.{append-nil}
use Rattle.std.specs.List.{join_with_byte, flat_map}
use Rattle.sp_text.specs.declared.faults.Kind.{Kind}
use Rattle.sp_text.specs.declared.faults.DimacsError.{DimacsError}
use Rattle.sp_text.specs.Lines.{ended, rest, lines, last_line, is_number, value}
use Rattle.sp_text.specs.Text.{is_word}
use Rattle.sp_text.specs.Meaning.{HasNoLf}
use Rattle.sp_text.specs.First.{or_at, size_fault, line_fault, first_after, first_fault, fault_so_far, fault_at_failure, fault_at_end}
use Rattle.sp_text.specs.Feeding.{IsMemory, Refused}
use Rattle.sp_text.proofs.Meant.{text_is}
use Rattle.sp_text.proofs.FaultlessText.{kind_none}
use Rattle.sp_files.specs.declared.lines.Line.{Line}
use Rattle.sp_files.specs.declared.lines.Line.TheVariants.{Problem, Row, End}
use Rattle.sp_files.specs.declared.taking.Spelled.{Spelled}
use Rattle.sp_files.specs.declared.taking.Spelled.TheVariants.{Nothing, Open, Whole}
use Rattle.sp_files.specs.declared.either.TreeOrForest.{TreeOrForest}
use Rattle.sp_files.specs.Fields.{fields}
use Rattle.sp_files.specs.Spelling.{Content, row_of, problem_of, first_of, end_of, line_of, line_in, next, spelling_state, fault, judge}
use Rattle.sp_files.specs.Taking.{either_form}
use Rattle.sp_files.specs.Reading.{ReadFault, FileRead}
use Rattle.sp_files.specs.TreeOrForest.{is_near, rules, EitherRead}
use Rattle.sp_files.proofs.LineBytes.{word, word_is, cond_some_none, by_first, by_letter}
use Rattle.sp_files.proofs.TakenLines.{Follows, follows, spelled_push}

-- 1. Where the first line has no fault, it begins with `p near` just if it begins a forest.

-- A text that begins so, or doesn't, may have this first line.
abbrev Fits : (near : Bool) → Option Line → Type 0
Fits near (Some (Problem other n second)) = near ≡ other
Fits near (Some (Row row)) = near ≡ false
Fits near line = Unit {0}

row_fits : (more : List (List ℕ)) (line : Line) → row_of more ≡ Some line → Fits false (Some line)
row_fits [] line h = cc
row_fits (v ∷ []) line h = cc
row_fits (v ∷ d ∷ []) line h = cc
row_fits (v ∷ d ∷ p ∷ []) line h = rw (← (cond_some_none (is_number v && is_number d && is_number p) (Row (record { vertex = value v; dist = value d; pred = value p; root = None })) line h).1) refl
row_fits (v ∷ d ∷ p ∷ r ∷ []) line h = rw (← (cond_some_none (is_number v && is_number d && is_number p && is_number r) (Row (record { vertex = value v; dist = value d; pred = value p; root = Some (value r) })) line h).1) refl
row_fits (v ∷ d ∷ p ∷ r ∷ x ∷ more) line h = cc

problem_fits : (near : Bool) (more : List (List ℕ)) (line : Line) → problem_of near more ≡ Some line → Fits (is_near (join_with_byte 32 ((112 ∷ []) ∷ word near ∷ more))) (Some line)
problem_fits near [] line h = cc
problem_fits near (n ∷ []) line h = cc
problem_fits false (n ∷ m ∷ []) line h = rw (← (cond_some_none (is_number n && is_number m) (Problem false (value n) (value m)) line h).1) refl
problem_fits true (n ∷ m ∷ []) line h = rw (← (cond_some_none (is_number n && is_number m) (Problem true (value n) (value m)) line h).1) refl
problem_fits near (n ∷ m ∷ x ∷ more) line h = cc

first_fits : (more : List (List ℕ)) (line : Line) → first_of more ≡ Some line → Fits (is_near (join_with_byte 32 ((112 ∷ []) ∷ more))) (Some line)
first_fits [] line h = cc
first_fits (field ∷ more) line h = by_first field more line (λ near is found. subst (λ (w : List ℕ). Fits (is_near (join_with_byte 32 ((112 ∷ []) ∷ w ∷ more))) (Some line)) (sym is) (problem_fits near more line found)) h

row_far : (more : List (List ℕ)) → is_near (join_with_byte 32 ((118 ∷ []) ∷ more)) ≡ false
row_far [] = refl
row_far (field ∷ more) = refl

end_fits : (near : Bool) (more : List (List ℕ)) (line : Line) → end_of more ≡ Some line → Fits near (Some line)
end_fits near [] line h = cc
end_fits near (count ∷ []) line h = rw (← (cond_some_none (is_number count) (End (value count)) line h).1) tt
end_fits near (count ∷ x ∷ more) line h = cc

of_letter : (own letter : List ℕ) (more : List (List ℕ)) (line : Line) → is_word own letter ≡ true → Fits (is_near (join_with_byte 32 (own ∷ more))) (Some line) → Fits (is_near (join_with_byte 32 (letter ∷ more))) (Some line)
of_letter own letter more line same fits = subst (λ (w : List ℕ). Fits (is_near (join_with_byte 32 (w ∷ more))) (Some line)) (sym (word_is own letter same)) fits

fields_fit : (parts : List (List ℕ)) (line : Line) → line_of parts ≡ Some line → Fits (is_near (join_with_byte 32 parts)) (Some line)
fields_fit [] line h = cc
fields_fit (letter ∷ more) line h = by_letter
    letter
    more
    line
    (λ p. of_letter (codes "v") letter more line p.0 (subst (λ (near : Bool). Fits near (Some line)) (sym (row_far more)) (row_fits more line p.1)))
    (λ p. of_letter (codes "p") letter more line p.0 (first_fits more line p.1))
    (λ p. end_fits (is_near (join_with_byte 32 (letter ∷ more))) more line p.1)
    h

line_fits : (bytes : List ℕ) (line : Option Line) → line_in bytes ≡ line → Fits (is_near bytes) line
unfolding line_in
line_fits bytes None h = tt
line_fits bytes (Some line) h = subst (λ (all : List ℕ). Fits (is_near all) (Some line)) (join_with_byte-slice_split 32 bytes) (fields_fit (fields bytes) line h)

-- These say which first lines may begin a text.

abbrev any : Bool → Bool
any near = true

abbrev chosen : Bool → Bool → Bool
chosen true near = near
chosen false near = not near

same_fault : (P : ℕ) (near : Bool) (line : Option Line) → Fits near line → fault P any Nothing line ≡ fault P (chosen near) Nothing line
same_fault P near None fits = refl
same_fault P near (Some (Problem true n second)) fits = rw fits refl
same_fault P near (Some (Problem false n second)) fits = rw fits refl
same_fault P near (Some (Row row)) fits = rw fits refl
same_fault P near (Some (End count)) fits = refl

-- 2. All rules tell the same of later lines.

abbrev IsBegun : Spelled Content → Type 0
IsBegun Nothing = ⊥
IsBegun (Open t) = Unit {0}
IsBegun (Whole t) = Unit {0}

fault_begun : (P : ℕ) (b c : Bool → Bool) (s : Spelled Content) (line : Option Line) → IsBegun s → fault P b s line ≡ fault P c s line
fault_begun P b c Nothing line h = absurd h
fault_begun P b c (Whole t) line h = refl
fault_begun P b c (Open t) None h = refl
fault_begun P b c (Open t) (Some (Problem near n second)) h = refl
fault_begun P b c (Open t) (Some (Row row)) h = refl
fault_begun P b c (Open t) (Some (End count)) h = refl

next_begun : (s : Spelled Content) (line : Option Line) → IsBegun s → IsBegun (next s line)
next_begun Nothing line h = absurd h
next_begun (Whole t) line h = tt
next_begun (Open t) None h = tt
next_begun (Open t) (Some (Problem near n second)) h = tt
next_begun (Open t) (Some (Row row)) h = tt
next_begun (Open t) (Some (End count)) h = tt

begins_then : (P : ℕ) (b : Bool → Bool) (line : Option Line) → Follows P b Nothing line → IsBegun (next Nothing line)
begins_then P b None is = absurd is
begins_then P b (Some (Problem near n second)) is = tt
begins_then P b (Some (Row row)) is = absurd is
begins_then P b (Some (End count)) is = absurd is

same_after : (P : ℕ) (b c : Bool → Bool) (before more : List (List ℕ)) → IsBegun (spelling_state before) → first_after (judge P b) before more ≡ first_after (judge P c) before more
unfolding first_after
same_after P b c before [] h = refl
same_after P b c before (line ∷ more) h =
    rw (fault_begun P b c (spelling_state before) (line_in line) h, same_after P b c (before ++ line ∷ []) more (rw (spelled_push before line) (next_begun (spelling_state before) (line_in line) h))) refl

-- The first line has the same fault by both rules.
abbrev Agree : (P : ℕ) → (b c : Bool → Bool) → List (List ℕ) → Type 0
Agree P b c [] = Unit {0}
Agree P b c (line ∷ more) = fault P b Nothing (line_in line) ≡ fault P c Nothing (line_in line)

or_same : (n : ℕ) (kind : Option Kind) (x y : Option DimacsError) → (kind ≡ None → x ≡ y) → or_at n kind x ≡ or_at n kind y
or_same n None x y same = same refl
or_same n (Some kind) x y same = refl

same_first : (P : ℕ) (b c : Bool → Bool) (all : List (List ℕ)) → Agree P b c all → first_fault (judge P b) all ≡ first_fault (judge P c) all
unfolding first_after
same_first P b c [] agree = refl
same_first P b c (line ∷ more) agree =
    rw (← agree) (or_same 1 (line_fault (judge P b) [] line) _ _ (λ none. same_after P b c (line ∷ []) more (begins_then P b (line_in line) (follows P b Nothing (line_in line) (kind_none (size_fault (judge P b) [] line) (fault P b Nothing (line_in line)) none).1))))

-- 3. All that is told of a text, by the rules that it selects.

front_agrees : (P : ℕ) (b c : Bool → Bool) (front : List (List ℕ)) (line : List ℕ) (behind : List (List ℕ)) → Agree P b c (front ++ line ∷ behind) → Agree P b c (front ++ line ∷ [])
front_agrees P b c [] line behind agree = agree
front_agrees P b c (first ∷ front) line behind agree = agree

module _ (P : ℕ) (b c : Bool → Bool) where
  so_far_same : (text : List ℕ) → Agree P b c (ended text) → fault_so_far (judge P b) text ≡ fault_so_far (judge P c) text
  unfolding fault_so_far
  so_far_same text agree = rw (same_first P b c (ended text) agree) refl

  failure_same : (text : List ℕ) → Agree P b c (ended text) → fault_at_failure (judge P b) text ≡ fault_at_failure (judge P c) text
  unfolding fault_at_failure
  failure_same text agree = rw (so_far_same text agree) refl

  end_same : (text : List ℕ) → Agree P b c (ended text) → Agree P b c (lines text) → fault_at_end (judge P b) text ≡ fault_at_end (judge P c) text
  unfolding fault_at_end
  end_same text agree all = rw (so_far_same text agree, same_first P b c (lines text) all) refl

  memory_same : (text : List ℕ) (e : DimacsError) → Agree P b c (ended text) → IsMemory (judge P b) [] (ended text) e → IsMemory (judge P c) [] (ended text) e
  memory_same text e agree h = record {
    kind = h.kind;
    front = h.front;
    line = h.line;
    behind = h.behind;
    parts = h.parts;
    place = h.place;
    later = h.later;
    item = h.item;
    clean = sym (same_first P b c (h.front ++ h.line ∷ []) (front_agrees P b c h.front h.line h.behind (rw h.parts at agree))) ∙ h.clean;
  }

  refused_same : (text : List ℕ) (e : DimacsError) → Agree P b c (ended text) → Refused (judge P b) [] text e → Refused (judge P c) [] text e
  refused_same text e agree (inl is) = inl (sym (so_far_same text agree) ∙ is)
  refused_same text e agree (inr memory) = inr (memory_same text e agree memory)

  read_same : (text : List ℕ) (left : Option (List ℕ)) (has_failed : Bool) (e : DimacsError) → ((front more : List ℕ) → text ≡ front ++ more → Agree P b c (ended front)) → Agree P b c (lines text) → ReadFault (judge P b) text left has_failed e → ReadFault (judge P c) text left has_failed e
  read_same text left has_failed e agree all (front, more, parts, is, inl refused) = (front, more, parts, is, inl (refused_same front e (agree front more parts) refused))
  read_same text left has_failed e agree all (front, more, parts, is, inr (inl (end, told))) = (front, more, parts, is, inr (inl (end, sym (end_same text (agree text [] (sym (append-nil text))) all) ∙ told)))
  read_same text left has_failed e agree all (front, more, parts, is, inr (inr (failed, told))) = (front, more, parts, is, inr (inr (failed, sym (failure_same front (agree front more parts)) ∙ told)))

-- 4. The first line begins as the text does.

word_before_lf : (word line more : List ℕ) → HasNoLf word → is_word word (take (length word) (line ++ 10 ∷ more)) ≡ is_word word (take (length word) line)
word_before_lf [] line more none = refl
word_before_lf (b ∷ word) [] more none = rw (ne_eqb b 10 none.0) refl
word_before_lf (b ∷ word) (c ∷ line) more none = ap (λ (t : Bool). eqb b c && t) (word_before_lf word line more none.1)

near_before_lf : (line more : List ℕ) → is_near (line ++ 10 ∷ more) ≡ is_near line
near_before_lf line more = word_before_lf (codes "p near") line more (λ e. omega (arith, e), (λ e. omega (arith, e), (λ e. omega (arith, e), (λ e. omega (arith, e), (λ e. omega (arith, e), (λ e. omega (arith, e), tt))))))

abbrev Begins : (near : Bool) → List (List ℕ) → Type 0
Begins near [] = Unit {0}
Begins near (line ∷ more) = is_near line ≡ near

begins_agree : (P : ℕ) (near : Bool) (all : List (List ℕ)) → Begins near all → Agree P any (chosen near) all
begins_agree P near [] h = tt
begins_agree P near (line ∷ more) h = same_fault P near (line_in line) (rw h at (line_fits line (line_in line) refl))

lines_begin : (all : List (List ℕ)) (more : List ℕ) → Begins (is_near (flat_map (λ line. line ++ 10 ∷ []) all ++ more)) all
lines_begin [] more = tt
lines_begin (line ∷ all) more =
    sym (ap is_near (append_assoc (line ++ 10 ∷ []) (flat_map (λ line. line ++ 10 ∷ []) all) more ∙ append_assoc line (10 ∷ []) (flat_map (λ line. line ++ 10 ∷ []) all ++ more)) ∙ near_before_lf line (flat_map (λ line. line ++ 10 ∷ []) all ++ more))

ended_begins : (text front more : List ℕ) → text ≡ front ++ more → Begins (is_near text) (ended front)
ended_begins text front more parts =
    let all = flat_map (λ line. line ++ 10 ∷ []) (ended front) in
    rw (parts ∙ (ap (λ (t : List ℕ). t ++ more) (text_is front).whole ∙ append_assoc all (rest front) more)) (lines_begin (ended front) (rest front ++ more))

last_begins : (text : List ℕ) (all : List (List ℕ)) (last : List ℕ) → text ≡ flat_map (λ line. line ++ 10 ∷ []) all ++ last → Begins (is_near text) (all ++ last_line last)
last_begins text [] [] is = tt
last_begins text [] (b ∷ last) is = rw is refl
last_begins text (line ∷ all) last is = rw is (lines_begin (line ∷ all) last)

lines_begin_so : (text : List ℕ) → Begins (is_near text) (lines text)
unfolding lines
lines_begin_so text = last_begins text (ended text) (rest text) (text_is text).whole

by_rules : (P : ℕ) (near : Bool) (text : List ℕ) (left : Option (List ℕ)) (has_failed : Bool) (e : DimacsError) → is_near text ≡ near → ReadFault (judge P any) text left has_failed e → ReadFault (rules P near) text left has_failed e
by_rules P true text left has_failed e is h =
    read_same P any (chosen true) text left has_failed e (λ front more parts. begins_agree P true (ended front) (rw is at (ended_begins text front more parts))) (begins_agree P true (lines text) (rw is at (lines_begin_so text))) h
by_rules P false text left has_failed e is h =
    read_same P any (chosen false) text left has_failed e (λ front more parts. begins_agree P false (ended front) (rw is at (ended_begins text front more parts))) (begins_agree P false (lines text) (rw is at (lines_begin_so text))) h

-- What is told of a text that may be either's is told of it by the rules that it selects.
pub either_read : {P : ℕ} (text : List ℕ) (left : Option (List ℕ)) (has_failed : Bool) (result : Result (TreeOrForest P) DimacsError) → FileRead P either_form text left has_failed result → EitherRead text left has_failed result
either_read text left has_failed (Ok value) h = h
either_read {P = P} text left has_failed (Err e) h = by_rules P (is_near text) text left has_failed e refl h
