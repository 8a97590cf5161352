-- What a run finds and leaves: files, and an output.
use Rattle.std.specs.Prelude.{◌≡◌, ℕ, Bool, true, false, List, Option, Some, None, Result}
use Rattle.sp_device.specs.Failing.{Failing, Anytime}
use Rattle.sp_device.specs.declared.devices.Read.{Ghosts as Reader}
use Rattle.sp_command.specs.declared.faults.Status.{Status}
use Rattle.sp_command.specs.declared.faults.Fault.{Fault}

-- ## Files

-- For each path, the files have the text of its file, if that is known; whether the file is opened for certain, or is absent,
-- so that it is certain not to be opened; and when its device may fail. They have whether the output of a command goes to a
-- terminal, if that is known; and for the path of an output and that of an input, whether both lead to one regular file, if that
-- is known.
pub record Files : Type 0 where
  pub text : List ℕ → Option (List ℕ)
  pub opens : List ℕ → Bool
  pub absent : List ℕ → Bool
  pub failing : List ℕ → Failing
  pub shown : Option Bool
  pub same : (output input : List ℕ) → Option Bool

-- Of the files of a system nothing is known.
abbrev pub unknown_files : Files
unknown_files = record { text = λ path. None; opens = λ path. false; absent = λ path. false; failing = λ path. Anytime; shown = None; same = λ output input. None }

-- An opened file gives the text of its path, if that text is known. It hasn't failed, and fails only as files of that
-- path do.
pub record IsOpened {File : Type 0} (reader : Reader File) (files : Files) (path : List ℕ) (file : File) : Type 0 where
  pub gives : (bytes : List ℕ) → files.text path ≡ Some bytes → reader.left file ≡ Some bytes
  pub sound : reader.has_failed file ≡ false
  pub failing : reader.failing file ≡ files.failing path

-- ## A run

-- The scene has the files, what had been written before and is written after, as far as it is known, and whether the
-- writer has failed.
pub record Scene : Type 0 where
  pub files : Files
  pub before : Option (List ℕ)
  pub after : Option (List ℕ)
  pub failed : Bool

-- The scene with these files, these texts before and after, and this mark of failure.
abbrev pub scene : Files → (before after : Option (List ℕ)) → (failed : Bool) → Scene
scene files before after failed = record { files = files; before = before; after = after; failed = failed }

-- The file of this path has this text.
abbrev pub HasText : Scene → (path text : List ℕ) → Type 0
HasText s path text = s.files.text path ≡ Some text

-- Nothing was written.
abbrev pub IsUnwritten : Scene → Type 0
IsUnwritten s = s.after ≡ s.before

-- A meaning says what a command's answer tells about a scene.
abbrev pub Meaning : Type 0 → Type 1
Meaning Command = Command → Scene → Result Status Fault → Type 0
