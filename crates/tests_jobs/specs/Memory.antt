-- Files in memory.
use Rattle.std.specs.Prelude.{ℕ, Bool, false, List, [], ◌∷◌, map, Option, Some, None, is_some, is_none, if◌then◌else◌, bytes_eq, string_bytes}
use Rattle.sp_device.specs.Failing.{Never}
use Rattle.sp_command.specs.Outputs.{KeptOutput, OutputFiles}
use Rattle.sp_command.specs.Scene.{Files}
use Rattle.tests_jobs.specs.declared.stored.StoredFile.{StoredFile}
use Rattle.tests_jobs.specs.declared.memory.KeptFile.{KeptFile}

-- A path has the text of the first file with that path.
abbrev pub text_in : List StoredFile → (path : List ℕ) → Option (List ℕ)
text_in [] path = None
text_in (file ∷ more) path = if bytes_eq file.path.now path then Some file.text.now else text_in more path

-- Exactly the paths of files are opened. No device fails. A file has one path.
abbrev pub files_of : List StoredFile → Files
files_of stored = record { text = text_in stored; opens = λ path. is_some (text_in stored path); absent = λ path. is_none (text_in stored path); failing = λ path. Never; shown = Some false; same = λ output input. Some (bytes_eq output input) }

-- This is what contracts see of a file that was kept: its path and its text.
abbrev pub kept_of : KeptFile → KeptOutput
kept_of file = record { path = string_bytes file.path; text = Some file.output.taken.items }

-- The files that were kept are known, with their texts. No file is kept for certain, since memory may be refused.
abbrev pub outputs_of : List KeptFile → OutputFiles
outputs_of kept = record { kept = Some (map kept_of kept); begun = None; takes = λ path. false }
