-- No text of lines that spells a graph begins with 0x89.
use Rattle.std.proofs.Common.{◌≡◌, ◌≢◌, ℕ, zero, suc, ◌≤◌, Bool, true, false, cond, List, [], ◌∷◌, ◌++◌, take, Option, Some, None, refl, subst, arith}
use Rattle.std.specs.Prelude.{◌==◌, codes}
use Rattle.std.proofs.lemmas.Bool.{eqb-true, ne_eqb}
use Rattle.sp_text.specs.declared.faults.Kind.{Kind}
use Rattle.sp_text.specs.declared.faults.Kind.TheVariants.{BadLine}
use Rattle.sp_text.specs.declared.faults.DimacsError.{DimacsError}
use Rattle.sp_text.specs.Formats.{ranges_of}
use Rattle.sp_text.specs.Lines.{cut, ended, rest, last_line, lines, without_cr, fields_from, fields, StartsOtherwise}
use Rattle.sp_text.specs.Text.{reading_of, reading, of_form, fault, judge}
use Rattle.sp_text.specs.Text.{Reading}
use Rattle.sp_text.specs.First.{Judge, or_at, or_else, or_kind, size_fault, line_fault, first_after, first_fault, fault_at_end}
use Rattle.sp_text.proofs.FieldRuns.{no_remark, no_words}
use Rattle.sp_dimacs.specs.Formats.{gr_up_to}
use Rattle.sp_dimacs.specs.Graph.{SpellsUpTo}
use Rattle.sp_dimacs.specs.declared.graphs.GrFile.{GrFile}
use Rattle.sp_packed.specs.Packed.{is_packed}

-- The list begins with this byte; the lines do.
record Begins (b : ℕ) (bytes : List ℕ) : Type 0 where
  more : List ℕ
  is : bytes ≡ b ∷ more

record BeginLines (b : ℕ) (all : List (List ℕ)) : Type 0 where
  more : List ℕ
  later : List (List ℕ)
  is : all ≡ (b ∷ more) ∷ later

-- ## The first line

cut_short : (short : Bool) (n b : ℕ) (l : List ℕ) → 1 ≤ n → Begins b (cond short (take n (b ∷ l)) (b ∷ l))
cut_short false n b l some = record { more = l; is = refl }
cut_short true zero b l some = absurd (omega arith)
cut_short true (suc n) b l some = record { more = take n l; is = refl }

without_cr_begins : (b : ℕ) (l : List ℕ) → b ≢ 13 → Begins b (without_cr (b ∷ l))
without_cr_begins b [] other = rw (ne_eqb b 13 other) (record { more = []; is = refl })
without_cr_begins b (x ∷ l) other = cut_short _ _ b (x ∷ l) (omega arith)

either_begins : (ends : Bool) (b : ℕ) (these others : List (List ℕ) × List ℕ) → BeginLines b (these.0 ++ last_line these.1) → BeginLines b (others.0 ++ last_line others.1)
    → BeginLines b ((cond ends these others).0 ++ last_line (cond ends these others).1)
either_begins true b these others h k = h
either_begins false b these others h k = k

later_begins : (ends : Bool) (b : ℕ) (these others : List (List ℕ) × List ℕ) → ends ≡ false → BeginLines b (others.0 ++ last_line others.1)
    → BeginLines b ((cond ends these others).0 ++ last_line (cond ends these others).1)
later_begins true b these others is h = cc
later_begins false b these others is h = h

cut_begins : (b : ℕ) (line bytes : List ℕ) → BeginLines b ((cut (b ∷ line) bytes).0 ++ last_line (cut (b ∷ line) bytes).1)
cut_begins b line [] = record { more = line; later = []; is = refl }
cut_begins b line (x ∷ bytes) =
    either_begins (x == 10) b ((b ∷ line) ∷ (cut [] bytes).0, (cut [] bytes).1) (cut ((b ∷ line) ++ x ∷ []) bytes)
    (record { more = line; later = (cut [] bytes).0 ++ last_line (cut [] bytes).1; is = refl }) (cut_begins b (line ++ x ∷ []) bytes)

lines_begin : (b : ℕ) (bytes : List ℕ) → b ≢ 10 → BeginLines b (lines (b ∷ bytes))
unfolding lines ended rest
lines_begin b bytes other = later_begins (b == 10) b ([] ∷ (cut [] bytes).0, (cut [] bytes).1) (cut (b ∷ []) bytes) (ne_eqb b 10 other) (cut_begins b [] bytes)

-- ## Its fault

bad_fields : (most : ℕ) (text : List ℕ) → StartsOtherwise text 99 → StartsOtherwise text 112 → StartsOtherwise text 97 → reading_of (gr_up_to most) (fields_from [] text) ≡ Reading.Bad
unfolding reading_of of_form
bad_fields most text c p a =
    rw (
      no_remark text c,
      no_words (codes "p sp") text 112 (gr_up_to most).problem.fields ((λ e. absurd (omega (arith, e))), refl) refl p,
      no_words (codes "a") text 97 _ ((λ e. absurd (omega (arith, e))), refl) refl a,
    ) refl

bad_line : (most : ℕ) (line : List ℕ) → reading (gr_up_to most) (137 ∷ line) ≡ Reading.Bad
unfolding reading fields
bad_line most line =
    let first = without_cr_begins 137 line (λ e. absurd (omega (arith, e))) in
    rw first.is (bad_fields most (137 ∷ first.more) ((λ e. absurd (omega (arith, e))), refl) ((λ e. absurd (omega (arith, e))), refl) ((λ e. absurd (omega (arith, e))), refl))

else_none : (a b : Option DimacsError) → or_else a b ≡ None → a ≡ None
else_none None b h = refl
else_none (Some e) b h = cc

at_none : (k : ℕ) (a : Option Kind) (later : Option DimacsError) → or_at k a later ≡ None → a ≡ None
at_none k None later h = refl
at_none k (Some kind) later h = cc

kind_none : (a b : Option Kind) → or_kind a b ≡ None → b ≡ None
kind_none None b h = h
kind_none (Some kind) b h = cc

first_clean : (rules : Judge) (line : List ℕ) (more : List (List ℕ)) → first_fault rules (line ∷ more) ≡ None → rules.fault [] line ≡ None
unfolding first_after
first_clean rules line more h =
    kind_none (size_fault rules [] line) (rules.fault [] line)
    (at_none 1 (line_fault rules [] line) (first_after rules (line ∷ []) more) h)

lines_clean : (P most : ℕ) (text : List ℕ) → fault_at_end (judge (gr_up_to most) (ranges_of P)) text ≡ None → first_fault (judge (gr_up_to most) (ranges_of P)) (lines text) ≡ None
unfolding fault_at_end
lines_clean P most text h = else_none (first_fault (judge (gr_up_to most) (ranges_of P)) (lines text)) _ h

has_fault : (P most : ℕ) (line : List ℕ) → fault (gr_up_to most) (ranges_of P) [] (137 ∷ line) ≡ Some BadLine
unfolding fault
has_fault P most line = rw (bad_line most line) refl

not_clean : (P most : ℕ) (bytes : List ℕ) → fault_at_end (judge (gr_up_to most) (ranges_of P)) (137 ∷ bytes) ≡ None → ⊥
not_clean P most bytes h =
    let rules = judge (gr_up_to most) (ranges_of P) in
    let first = lines_begin 137 bytes (λ e. absurd (omega (arith, e))) in
    let clean : first_fault rules ((137 ∷ first.more) ∷ first.later) ≡ None = subst (λ all. first_fault rules all ≡ None) first.is (lines_clean P most (137 ∷ bytes) h) in
    let none : fault (gr_up_to most) (ranges_of P) [] (137 ∷ first.more) ≡ None = first_clean rules (137 ∷ first.more) first.later clean in
    let some = has_fault P most first.more in
    cc

told_apart : (yes : Bool) (P most b : ℕ) (bytes : List ℕ) → (b == 137) ≡ yes → fault_at_end (judge (gr_up_to most) (ranges_of P)) (b ∷ bytes) ≡ None → yes ≡ false
told_apart false P most b bytes is h = refl
told_apart true P most b bytes is h = absurd (not_clean P most bytes (subst (λ x. fault_at_end (judge (gr_up_to most) (ranges_of P)) (x ∷ bytes) ≡ None) (eqb-true b 137 is) h))

pub lines_unpacked : (P most : ℕ) (text : List ℕ) (file : GrFile) → SpellsUpTo P most text file → is_packed text ≡ false
lines_unpacked P most [] file h = refl
lines_unpacked P most (b ∷ bytes) file (problem, items, spells, is) = told_apart (b == 137) P most b bytes refl spells.faultless
