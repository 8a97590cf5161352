-- Lines of rows that are put, or sent, part by part.
use Rattle.std.proofs.Common.{◌≡◌, ℕ, ◌+◌, ◌-◌, ◌≤◌, List, [], ◌++◌, length, take, drop, refl, sym, ap, ◌∙◌, append_assoc, take-append-drop, Result, arith}
use Rattle.std.proofs.lemmas.List.{append-nil, length-drop, length-take-le, take_all}
use Rattle.std.proofs.lemmas.List.Concat.{flat_map-append}
use Rattle.std.specs.List.{flat_map}
use Rattle.sp_word.specs.Word.{Word}
use Rattle.sp_device.specs.declared.devices.Write.{Ghosts as Writer}
use Rattle.sp_device.specs.declared.printing.Printer.{Printer}
use Rattle.sp_device.specs.Printing.{Sends}
use Rattle.sp_answer.specs.Table.{rows_from}
use Rattle.sp_answer.proofs.RisingRows.{rows_from-append}
use Rattle.sp_files.specs.TreeText.{row_text, words_text}
use Rattle.sp_files.specs.Sending.{EndsWith}

-- the lines of words, cut at a place
pub words_parted : (first n : ℕ) (words front back : List Word) → n ≤ length words → front ≡ take n words → back ≡ drop n words → words_text first words ≡ words_text first front ++ words_text (first + n) back
words_parted first n words front back within front_is back_is =
    let size : length front ≡ n = ap length front_is ∙ length-take-le n words within in
    let cut : words ≡ front ++ back = rw (front_is, back_is) (sym (take-append-drop n words)) in
    ap (words_text first) cut
    ∙ (ap (flat_map row_text) (rows_from-append first front back)
    ∙ (flat_map-append row_text (rows_from first front) (rows_from (first + length front) back)
    ∙ ap (λ (k : ℕ). words_text first front ++ words_text (first + k) back) size))

-- The last line is put before those behind it.
pub one_more_put : (whole rest front last old new : List ℕ) → whole ≡ rest ++ old → rest ≡ front ++ last → new ≡ last ++ old → whole ≡ front ++ new
one_more_put whole rest front last old new is cut put = rw (is, cut, put) (append_assoc front last old)

-- what stands from a place on
pub last_part : {X : Type 0} (start : ℕ) (xs part : List X) → start ≤ length xs → drop start xs ≡ part → take (length xs - start) (drop start xs) ≡ part
last_part start xs part within is = take_all (length xs - start) (drop start xs) (omega (arith, length-drop start xs)) ∙ is

-- A text and then another one are sent.
pub both_sent : {W : Type 0} (w : Writer W) (first more whole : List ℕ) (old mid new : W) (before middle after : Printer) → Sends w first old before mid middle → Sends w more mid middle new after → whole ≡ first ++ more → Sends w whole old before new after
both_sent w first more whole old mid new before middle after h k is = λ front start sent. rw (is, ← append_assoc front first more) (k (front ++ first) start (h front start sent))

-- A text is sent but for the rest of it.
pub record IsSentBut {W : Type 0} (w : Writer W) (whole rest : List ℕ) (old : W) (before : Printer) (new : W) (after : Printer) : Type 0 where
  pub done : List ℕ
  pub parts : whole ≡ done ++ rest
  pub sends : Sends w done old before new after

module _ {W : Type 0} (w : Writer W) where
  pub none_sent : (whole rest : List ℕ) (out : W) (printer : Printer) → rest ≡ whole → IsSentBut w whole rest out printer out printer
  none_sent whole rest out printer is = record {
    done = [];
    parts = sym is;
    sends = λ front start h. rw (append-nil front) h;
  }

  pub all_sent : (whole rest : List ℕ) (old new : W) (before after : Printer) → IsSentBut w whole rest old before new after → rest ≡ [] → Sends w whole old before new after
  all_sent whole rest old new before after h is =
      let all : whole ≡ h.done = h.parts ∙ (ap (λ (t : List ℕ). h.done ++ t) is ∙ append-nil h.done) in
      λ front start sent. rw all (h.sends front start sent)

pub more_sent : {W : Type 0} {w : Writer W} {whole rest : List ℕ} {old mid new : W} {before middle after : Printer} (group later : List ℕ) → IsSentBut w whole rest old before mid middle → rest ≡ group ++ later → Sends w group mid middle new after
    → IsSentBut w whole later old before new after
more_sent {w = w} {old = old} {mid = mid} {new = new} {before = before} {middle = middle} {after = after} group later h is sends = record {
  done = h.done ++ group;
  parts = h.parts ∙ (ap (λ (t : List ℕ). h.done ++ t) is ∙ sym (append_assoc h.done group later));
  sends = both_sent w h.done group (h.done ++ group) old mid new before middle after h.sends sends refl;
}

-- A text is sent, and then another one ends it.
pub ends_behind : {W F : Type 0} {w : Writer W} {old mid new : W} {before middle : Printer} {result : Result ℕ F} (first last : List ℕ) → Sends w first old before mid middle → EndsWith w last mid middle result new → EndsWith w (first ++ last) old before result new
ends_behind first last h is = record { ends = λ front start sent. rw (← append_assoc front first last) (is.ends (front ++ first) start (h front start sent)) }
