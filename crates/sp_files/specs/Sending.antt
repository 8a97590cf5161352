-- How a text that is sent begins and ends.
use Rattle.std.specs.Prelude.{◌≡◌, ℕ, false, List, ◌++◌, Result}
use Rattle.sp_device.specs.declared.devices.Write.{Ghosts as Writer}
use Rattle.sp_device.specs.declared.printing.Printer.{Printer}
use Rattle.sp_device.specs.Printing.{IsSending, Finished, Counted}

-- This text waits, and nothing was written yet.
pub record Begins (text : List ℕ) (printer : Printer) : Type 0 where
  pub waits : printer.block ≡ text
  pub none : printer.count ≡ 0
  pub going : printer.failed ≡ false

-- Whatever was sent before is now written, and then this text; or the writer has failed, and a prefix of them was written.
pub record EndsWith {W F : Type 0} (w : Writer W) (text : List ℕ) (old : W) (before : Printer) (result : Result ℕ F) (new : W) : Type 0 where
  pub ends : (front : List ℕ) (start : W) → IsSending w front start old before → Finished w (front ++ text) start result new × Counted w start result new
