-- A command in each of the layouts of a word.
use Rattle.std.specs.Prelude.{◌≡◌, ℕ, true, Result, IfErr}
use Rattle.sp_command.specs.declared.faults.Fault.{Fault}
use Rattle.sp_command.specs.declared.faults.Status.{Status}
use Rattle.sp_command.specs.declared.running.Runnable.{Ghosts as Running}
use Rattle.sp_command.specs.declared.layout.PredBits.{PredBits}
use Rattle.sp_command.specs.declared.layout.PredBits.TheVariants.{Bits20, Bits24, Bits28, Bits32}
use Rattle.sp_command.specs.Causes.{IsBorneOut}
use Rattle.sp_command.specs.Faults.{is_early}
use Rattle.sp_command.specs.Scene.{Scene, IsUnwritten}

-- This says what a command's answer in each layout tells about a scene.
abbrev pub Runs : Type 0 → Type 1
Runs Command = PredBits → Command → Scene → Result Status Fault → Type 0

-- The command answers as it means to, something in the scene brings its fault about, and nothing is written before a fault that
-- comes early.
pub record IsRun {Command : Type 0} {P : ℕ} (running : Running Command P) (command : Command) (s : Scene) (result : Result Status Fault) : Type 0 where
  pub answered : running.answers command s result
  pub borne_out : IfErr result (IsBorneOut (running.paths command) (running.own_faults command) s)
  pub untouched : IfErr result (λ why. is_early why ≡ true → IsUnwritten s)

-- The command runs in words with this many bits of predecessor, of what it does in each layout.
abbrev pub IsRunIn : {Command : Type 0} → Running Command 20 → Running Command 24 → Running Command 28 → Running Command 32 → PredBits → Command → Scene → Result Status Fault → Type 0
IsRunIn with_20 with_24 with_28 with_32 Bits20 command s result = IsRun with_20 command s result
IsRunIn with_20 with_24 with_28 with_32 Bits24 command s result = IsRun with_24 command s result
IsRunIn with_20 with_24 with_28 with_32 Bits28 command s result = IsRun with_28 command s result
IsRunIn with_20 with_24 with_28 with_32 Bits32 command s result = IsRun with_32 command s result
