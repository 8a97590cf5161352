-- A reader that takes plain lines.
use Rattle.std.proofs.Common.{◌≡◌, ℕ, ◌+◌, ◌%◌, ◌^◌, ◌<◌, ◌≤◌, List, [], ◌∷◌, ◌++◌, length, Option, Some, None, refl, sym, ap, ◌∙◌, arith, length-append}
use Rattle.std.proofs.Math.Nat.{mod-eq_of_lt}
use Rattle.std.proofs.lemmas.List.{append-nil}
use Rattle.sp_text.specs.declared.formats.Ranges.{Ranges}
use Rattle.sp_text.specs.declared.feeding.Feeder.{Feeder}
use Rattle.sp_text.specs.Lines.{ended, rest}
use Rattle.sp_text.specs.Meaning.{IsFirstLine}
use Rattle.sp_text.specs.Formats.{Format}
use Rattle.sp_text.specs.First.{Judge, first_after, first_fault}
use Rattle.sp_text.specs.Text.{ItemLine, Comment, IsItem, items_of, reading}
use Rattle.sp_text.specs.Feeding.{IsBehind}
use Rattle.sp_text.specs.Plain.{IsPlainItem, IsPlainReading, IsPlain}
use Rattle.sp_text.proofs.LineCuts.{cut-append, first_after-append, clean_parts}
use Rattle.sp_text.proofs.Behind.{ended_short, early_whole}
use Rattle.sp_text.proofs.KeptLine.{items_push}

-- 1. A line is kept.

pub item_kept : {K : Type 0} (format : Format) (ranges : Ranges) (Kept : K → List ItemLine → Type 0) (ps line : List ℕ) (old new : K) (item : ItemLine) → reading format line ≡ IsItem item → IsPlainItem format ranges ps item
    → ((before : List ItemLine) → Kept old before → Kept new (before ++ item ∷ [])) → IsPlainReading format ranges ps (reading format line) × ((all : List (List ℕ)) → Kept old (items_of format all) → Kept new (items_of format (all ++ line ∷ [])))
item_kept format ranges Kept ps line old new item is plain keeps = (rw is plain, λ all kept. rw (items_push format all line, is) (keeps (items_of format all) kept))

pub comment_kept : {K : Type 0} (format : Format) (ranges : Ranges) (Kept : K → List ItemLine → Type 0) (ps line : List ℕ) (keep : K) → reading format line ≡ Comment
    → IsPlainReading format ranges ps (reading format line) × ((all : List (List ℕ)) → Kept keep (items_of format all) → Kept keep (items_of format (all ++ line ∷ [])))
comment_kept format ranges Kept ps line keep is = (rw is tt, λ all kept. rw (items_push format all line, is, append-nil (items_of format all)) kept)

-- The first line of a text is found to be plain, and is kept.

pub front_comment : {K : Type 0} (format : Format) (ranges : Ranges) (Kept : K → List ItemLine → Type 0) (text more : List ℕ) (problem : Option (List ℕ)) (keep : K)
    → (line : List ℕ) × IsFirstLine text line more × (length line ≤ 1024) × ((other : List ℕ) × (problem ≡ Some other) × (reading format line ≡ Comment)) → (ps : List ℕ) → problem ≡ Some ps
    → (line : List ℕ) × IsFirstLine text line more × IsPlain format ranges ps line × ((all : List (List ℕ)) → Kept keep (items_of format all) → Kept keep (items_of format (all ++ line ∷ [])))
front_comment format ranges Kept text more problem keep (line, first, short, (other, has, is)) ps same =
    let kept = comment_kept format ranges Kept ps line keep is in
    (line, first, record { short = short; fits = kept.0 }, kept.1)

pub front_plain : {K : Type 0} (format : Format) (ranges : Ranges) (Kept : K → List ItemLine → Type 0) (text more values : List ℕ) (problem : Option (List ℕ)) (old new : K)
    → (line : List ℕ) × IsFirstLine text line more × (length line ≤ 1024) × ((other : List ℕ) × (problem ≡ Some other) × ((item : ItemLine) × (reading format line ≡ IsItem item) × (item.kind ≡ 0) × (item.numbers ≡ values) × IsPlainItem format ranges other item))
    → ((before : List ItemLine) (item : ItemLine) → Kept old before → item.kind ≡ 0 → item.numbers ≡ values → Kept new (before ++ item ∷ [])) → (ps : List ℕ) → problem ≡ Some ps
    → (line : List ℕ) × IsFirstLine text line more × IsPlain format ranges ps line × ((all : List (List ℕ)) → Kept old (items_of format all) → Kept new (items_of format (all ++ line ∷ [])))
front_plain format ranges Kept text more values problem old new (line, first, short, (other, has, (item, is, kind, numbers, plain))) keeps ps same =
    let here : other ≡ ps = cc (has, same) in
    let kept = item_kept format ranges Kept ps line old new item is (rw here at plain) (λ before h. keeps before item h kind numbers) in
    (line, first, record { short = short; fits = kept.0 }, kept.1)

-- 2. A reader takes whole lines.

ended_both : (text block : List ℕ) → rest text ≡ [] → ended (text ++ block) ≡ ended text ++ ended block
unfolding ended rest
ended_both text block none = ap (λ (c : List (List ℕ) × List ℕ). c.0) (cut-append [] text block) ∙ rw none refl

rest_both : (text block : List ℕ) → rest text ≡ [] → rest (text ++ block) ≡ rest block
unfolding ended rest
rest_both text block none = ap (λ (c : List (List ℕ) × List ℕ). c.1) (cut-append [] text block) ∙ rw none refl

both_clean : (judge : Judge) (before more : List (List ℕ)) → first_fault judge before ≡ None → first_after judge before more ≡ None → first_fault judge (before ++ more) ≡ None
both_clean judge before more none clean = first_after-append judge [] before more ∙ rw (none, clean) refl

pub lines_taken : {T : Type 0} (judge : Judge) (After : T → List (List ℕ) → Type 0) (text block : List ℕ) (old : Feeder T) (taker : T) (number ends : ℕ) → length (text ++ block) ≤ 2 ^ 62
    → IsBehind judge After text old → old.room ≡ [] → rest block ≡ [] → first_after judge (ended text) (ended block) ≡ None → After taker (ended text ++ ended block)
    → number ≡ length (ended block) → ends ≡ (old.ends + number) % 2 ^ 64
    → IsBehind judge After (text ++ block) (record { taker = taker; room = old.room; ends = ends; spent = old.spent })
lines_taken judge After text block old taker number ends small h empty whole clean taken number_is ends_is =
    let none : rest text ≡ [] = sym h.room ∙ empty in
    let all = ended_both text block none in
    let open_line = rest_both text block none ∙ whole in
    let few : old.ends + number < 2 ^ 64 = omega (arith, h.ends, ended_short text, ended_short block, length-append text block) in
    record {
      going = h.going;
      clean = early_whole judge (text ++ block) open_line ∙ (ap (first_fault judge) all ∙ both_clean judge (ended text) (ended block) (clean_parts judge text h.clean).0 clean);
      room = empty ∙ sym open_line;
      ends = ends_is ∙ (mod-eq_of_lt few ∙ rw all (omega (arith, h.ends, length-append (ended text) (ended block))));
      taken = rw all taken;
    }

pub same_behind : {T : Type 0} (judge : Judge) (After : T → List (List ℕ) → Type 0) (text : List ℕ) (old : Feeder T) (taker : T) → IsBehind judge After text old → After taker (ended text)
    → IsBehind judge After text (record { taker = taker; room = old.room; ends = old.ends; spent = old.spent })
same_behind judge After text old taker h taken = record { going = h.going; clean = h.clean; room = h.room; ends = h.ends; taken = taken }
