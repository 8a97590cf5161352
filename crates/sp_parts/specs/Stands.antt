-- The state of a text that several threads read.
use Rattle.std.specs.Prelude.{◌≡◌, ◌≤◌, ◌^◌, ℕ, false, List, ◌++◌, length, Option, Some}
use Rattle.std.specs.Io.KnownBytes.{Consumes}
use Rattle.sp_device.specs.declared.devices.Read.{Ghosts as Device}
use Rattle.sp_device.specs.Failing.{Never}
use Rattle.sp_text.specs.declared.collecting.Keep.{Ghosts as Keeper}
use Rattle.sp_text.specs.declared.collecting.Collector.{Collector}
use Rattle.sp_text.specs.declared.feeding.Feeder.{Feeder}
use Rattle.sp_text.specs.Lines.{ended}
use Rattle.sp_text.specs.Text.{judge, problem_of}
use Rattle.sp_text.specs.Collectors.{HasTakenLines}
use Rattle.sp_text.specs.Feeding.{IsBehind}
use Rattle.sp_parts.specs.declared.receiving.Received.{Received}
use Rattle.sp_parts.specs.Groups.{HasComeTo, HasAnswered}
use Rattle.sp_parts.specs.Parts.{IsAt}

-- Some bytes were read alone, with the problem line. The device then had this source left, if it is known. Since then `came`
-- bytes have come from it, of which the reader has taken `taken`.
pub record Stands {R K V : Type 0} {keeper : Keeper K V} (r : Device R) (source problem : Option (List ℕ)) (begun device : R) (reader : Feeder (Collector K V keeper)) (came taken : ℕ) : Type 0 where
  pub alone : List ℕ
  pub text : List ℕ
  pub front : List ℕ
  pub ps : List ℕ
  pub before : Consumes (r.left begun) source alone
  pub since : Consumes source (r.left device) text
  pub passed : length (alone ++ text) ≤ r.passed device
  pub short : length (alone ++ text) ≤ 2 ^ 62
  pub is_came : length text ≡ came
  pub is_taken : length front ≡ taken
  pub within : taken ≤ came
  pub place : IsAt source 0 front
  pub behind : IsBehind (judge keeper.format keeper.ranges) HasTakenLines (alone ++ front) reader
  pub found : problem_of keeper.format (ended (alone ++ front)) ≡ Some ps
  pub same : problem ≡ Some ps

-- What holds while several threads read, since they began after some reader: what has come, and the device's last result.
pub record Goes {R K V : Type 0} {keeper : Keeper K V} (r : Device R) (source problem : Option (List ℕ)) (first : R) (old : Feeder (Collector K V keeper)) (begun_came begun_taken : ℕ) (device : R) (reader : Feeder (Collector K V keeper)) (came taken : ℕ) (received : Received) : Type 0 where
  pub come : HasComeTo r source device came
  pub answer : HasAnswered (r.left device) (r.has_failed device) received
  pub lasting : r.failing device ≡ r.failing first
  pub further : r.passed first ≤ r.passed device
  pub never : r.failing first ≡ Never → r.has_failed device ≡ false
  pub stands : (begun : R) → Stands r source problem begun first old begun_came begun_taken → Stands r source problem begun device reader came taken
