-- A text that is sent to a writer, step by step.
use Rattle.std.proofs.Common.{◌≡◌, ℕ, true, false, zero, suc, ◌+◌, ◌-◌, ◌^◌, ◌<◌, ◌≤◌, List, [], ◌++◌, length, take, drop, min, Option, sym, ap, ◌∙◌, append_assoc, take-append-drop, length-append, arith}
use Rattle.std.proofs.lemmas.List.{append-nil}
use Rattle.std.proofs.lemmas.Bool.{false≢true}
use Rattle.std.proofs.KnownBytes.{Appends-nil, Appends-trans}
use Rattle.std.specs.Io.KnownBytes.{Appends}
use Rattle.sp_device.specs.declared.devices.Write.{Ghosts as Writer}
use Rattle.sp_device.specs.declared.printing.Printer.{Printer}
use Rattle.sp_device.specs.Devices.{IsBegun}
use Rattle.sp_device.specs.Printing.{IsSent, IsSending}

pub split_on : (bytes front rest after : List ℕ) (n : ℕ) → bytes ≡ front ++ rest → after ≡ drop n rest → bytes ≡ (front ++ take n rest) ++ after
split_on bytes front rest after n whole is =
    whole ∙ (ap (λ (t : List ℕ). front ++ t) (sym (take-append-drop n rest) ∙ ap (λ (t : List ℕ). take n rest ++ t) (sym is)) ∙ sym (append_assoc front (take n rest) after))

-- A beginning of a text is one of a longer text.
pub begun_more : (text more : List ℕ) (old new : Option (List ℕ)) → IsBegun text old new → IsBegun (text ++ more) old new
begun_more text more old new h = record {
  part = h.part;
  more = h.more ++ more;
  parts = ap (λ (t : List ℕ). t ++ more) h.parts ∙ append_assoc h.part h.more more;
  wrote = h.wrote;
}

-- Behind a text that was written, a beginning of the next one.
pub begun_behind : (text front bytes : List ℕ) (old mid new : Option (List ℕ)) → text ≡ front ++ bytes → Appends old mid front → IsBegun bytes mid new → IsBegun text old new
begun_behind text front bytes old mid new whole wrote h = record {
  part = front ++ h.part;
  more = h.more;
  parts = whole ∙ (ap (λ (t : List ℕ). front ++ t) h.parts ∙ sym (append_assoc front h.part h.more));
  wrote = Appends-trans old mid new front h.part wrote h.wrote;
}

pub sends_ok : {W : Type 0} (w : Writer W) (text : List ℕ) (start out : W) (printer : Printer) → printer.failed ≡ false → IsSent w text start out printer → IsSending w text start out printer
sends_ok w text start out printer going sent = record {
  going = λ _. sent;
  begun = λ failed. absurd (false≢true (sym going ∙ failed));
  failed = λ failed. absurd (false≢true (sym going ∙ failed));
}

pub sends_failed : {W : Type 0} (w : Writer W) (text : List ℕ) (start out : W) (printer : Printer) → printer.failed ≡ true → IsBegun text (w.written start) (w.written out) → w.has_failed out ≡ true
    → IsSending w text start out printer
sends_failed w text start out printer failed begun fails = record {
  going = λ going. absurd (false≢true (sym going ∙ failed));
  begun = λ _. begun;
  failed = λ _. fails;
}

-- Nothing was sent yet.
none_sent : {W : Type 0} (w : Writer W) (out : W) (printer : Printer) → printer.block ≡ [] → printer.count ≡ 0 → IsSent w [] out out printer
none_sent w out printer empty none = record {
  done = [];
  parts = sym empty;
  wrote = Appends-nil (w.written out);
  went = omega arith;
  counted = none;
  small = λ (some : 0 < 0). absurd (omega (arith, some));
}

pub unsent : {W : Type 0} (w : Writer W) (out : W) (printer : Printer) → printer.block ≡ [] → printer.count ≡ 0 → printer.failed ≡ false → IsSending w [] out out printer
unsent w out printer empty none going = sends_ok w [] out out printer going (none_sent w out printer empty none)

block_pushed : {W : Type 0} (w : Writer W) (front bytes : List ℕ) (start out : W) (printer : Printer) (block : List ℕ) → IsSent w front start out printer → block ≡ printer.block ++ bytes
    → IsSent w (front ++ bytes) start out (record { block = block; count = printer.count; failed = printer.failed })
block_pushed w front bytes start out printer block h is = record {
  done = h.done;
  parts = ap (λ (t : List ℕ). t ++ bytes) h.parts ∙ (append_assoc h.done printer.block bytes ∙ ap (λ (t : List ℕ). h.done ++ t) (sym is));
  wrote = h.wrote;
  went = h.went;
  counted = h.counted;
  small = h.small;
}

-- What is pushed is sent.
pub pushed : {W : Type 0} (w : Writer W) (front bytes : List ℕ) (start out : W) (printer : Printer) (block : List ℕ) → IsSending w front start out printer → block ≡ printer.block ++ bytes
    → IsSending w (front ++ bytes) start out (record { block = block; count = printer.count; failed = printer.failed })
pushed w front bytes start out printer block h is = record {
  going = λ going. block_pushed w front bytes start out printer block (h.going going) is;
  begun = λ failed. begun_more front bytes (w.written start) (w.written out) (h.begun failed);
  failed = h.failed;
}

-- The device has passed no more than it may, behind d bytes and n more.
still_small : (n d p q : ℕ) → (0 < n → q ≤ 2 ^ 62) → q ≡ p + n → (0 < d → p ≤ 2 ^ 62) → 0 < d + n → q ≤ 2 ^ 62
still_small zero d p q limit is small some = omega (arith, is, small (omega (arith, some)))
still_small (suc n) d p q limit is small some = limit (omega arith)

sum_small : (n d s p q : ℕ) → (0 < n → q ≤ 2 ^ 62) → q ≡ p + n → p ≡ s + d → (0 < d → p ≤ 2 ^ 62) → d + n ≤ 2 ^ 62
sum_small zero zero s p q limit is from small = omega arith
sum_small zero (suc d) s p q limit is from small = omega (arith, from, small (omega arith))
sum_small (suc n) d s p q limit is from small = omega (arith, is, from, limit (omega arith))

-- Bytes are written behind a text all of which was written.
pub written_on : {W : Type 0} (w : Writer W) (front bytes : List ℕ) (start out new : W) (printer : Printer) (count : ℕ) → IsSent w front start out printer → printer.block ≡ []
    → Appends (w.written out) (w.written new) bytes → w.passed new ≡ w.passed out + length bytes → (0 < length bytes → w.passed new ≤ 2 ^ 62) → count ≡ min (printer.count + length bytes) (2 ^ 64 - 1)
    → IsSent w (front ++ bytes) start new (record { block = printer.block; count = count; failed = printer.failed })
written_on w front bytes start out new printer count h empty wrote went limit is =
    let whole : front ≡ h.done = h.parts ∙ rw empty (append-nil h.done) in
    let short = sum_small (length bytes) (length h.done) (w.passed start) (w.passed out) (w.passed new) limit went h.went h.small in
    record {
      done = h.done ++ bytes;
      parts = ap (λ (t : List ℕ). t ++ bytes) whole ∙ rw empty (sym (append-nil (h.done ++ bytes)));
      wrote = Appends-trans (w.written start) (w.written out) (w.written new) h.done bytes h.wrote wrote;
      went = omega (arith, h.went, length-append h.done bytes);
      counted = omega (arith, h.counted, short, length-append h.done bytes);
      small = rw (length-append h.done bytes) (still_small (length bytes) (length h.done) (w.passed out) (w.passed new) limit went h.small);
    }

-- What waits is written.
pub flushed : {W : Type 0} (w : Writer W) (front bytes : List ℕ) (start out new : W) (printer : Printer) (block : List ℕ) (count : ℕ) → IsSent w front start out printer → bytes ≡ printer.block
    → Appends (w.written out) (w.written new) bytes → w.passed new ≡ w.passed out + length bytes → (0 < length bytes → w.passed new ≤ 2 ^ 62) → block ≡ [] → count ≡ min (printer.count + length bytes) (2 ^ 64 - 1)
    → IsSent w front start new (record { block = block; count = count; failed = printer.failed })
flushed w front bytes start out new printer block count h waits wrote went limit empty is = record {
  done = h.done ++ bytes;
  parts = h.parts ∙ rw (← waits, empty) (sym (append-nil (h.done ++ bytes)));
  wrote = Appends-trans (w.written start) (w.written out) (w.written new) h.done bytes h.wrote wrote;
  went = omega (arith, h.went, length-append h.done bytes);
  counted = omega (arith, h.counted, sum_small (length bytes) (length h.done) (w.passed start) (w.passed out) (w.passed new) limit went h.went h.small, length-append h.done bytes);
  small = rw (length-append h.done bytes) (still_small (length bytes) (length h.done) (w.passed out) (w.passed new) limit went h.small);
}
