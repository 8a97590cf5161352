-- A text that is sent to a writer in blocks.
use Rattle.std.specs.Prelude.{◌≡◌, ◌+◌, ◌<◌, ◌≤◌, ◌^◌, ℕ, true, false, List, ◌++◌, length, Result, Ok, Err}
use Rattle.std.specs.Io.KnownBytes.{Appends}
use Rattle.sp_device.specs.declared.devices.Write.{Ghosts as Writer}
use Rattle.sp_device.specs.declared.printing.Printer.{Printer}
use Rattle.sp_device.specs.Devices.{IsBegun}

-- Since `start` this text was sent: a part of it was written, and the rest waits.
pub record IsSent {W : Type 0} (w : Writer W) (text : List ℕ) (start out : W) (printer : Printer) : Type 0 where
  pub done : List ℕ
  pub parts : text ≡ done ++ printer.block
  pub wrote : Appends (w.written start) (w.written out) done
  pub went : w.passed out ≡ w.passed start + length done
  pub counted : printer.count ≡ length done
  pub small : 0 < length done → w.passed out ≤ 2 ^ 62

-- The text was sent; or the writer has failed, and a prefix of the text was written.
pub record IsSending {W : Type 0} (w : Writer W) (text : List ℕ) (start out : W) (printer : Printer) : Type 0 where
  pub going : printer.failed ≡ false → IsSent w text start out printer
  pub begun : printer.failed ≡ true → IsBegun text (w.written start) (w.written out)
  pub failed : printer.failed ≡ true → w.has_failed out ≡ true

-- This text is sent after whatever was sent before.
abbrev pub Sends : {W : Type 0} → Writer W → List ℕ → W → Printer → W → Printer → Type 0
Sends {W = W} w text old before new after =
    (front : List ℕ) (start : W) → IsSending w front start old before → IsSending w (front ++ text) start new after

-- Whatever was sent before is still sent.
abbrev pub KeepsSending : {W : Type 0} → Writer W → W → Printer → W → Printer → Type 0
KeepsSending {W = W} w old before new after =
    (front : List ℕ) (start : W) → IsSending w front start old before → IsSending w front start new after

-- The text was written, and the result is its number of bytes; or the writer has failed, and a prefix of the text was
-- written.
abbrev pub Finished : {W F : Type 0} → Writer W → List ℕ → W → Result ℕ F → W → Type 0
Finished w text start (Ok count) out = Appends (w.written start) (w.written out) text × (count ≡ length text)
Finished w text start (Err e) out = IsBegun text (w.written start) (w.written out) × (w.has_failed out ≡ true)

-- The result is the number of bytes that the device passed on.
abbrev pub Counted : {W F : Type 0} → Writer W → W → Result ℕ F → W → Type 0
Counted w start (Ok count) out = (w.passed out ≡ w.passed start + count) × (0 < count → w.passed out ≤ 2 ^ 62)
Counted w start (Err e) out = Unit {0}

-- Whatever was sent is written by then; or the writer has failed, and a prefix of it was written.
abbrev pub EndsSending : {W F : Type 0} → Writer W → W → Printer → Result ℕ F → W → Type 0
EndsSending {W = W} w old before result new =
    (front : List ℕ) (start : W) → IsSending w front start old before → Finished w front start result new

-- The result is the number of bytes that were sent.
abbrev pub EndsCounting : {W F : Type 0} → Writer W → W → Printer → Result ℕ F → W → Type 0
EndsCounting {W = W} w old before result new =
    (front : List ℕ) (start : W) → IsSending w front start old before → Counted w start result new
