-- A system in memory.
use Rattle.std.specs.Prelude.{ℕ, ◌+◌, ◌-◌, Bool, List, [], ◌∷◌, ◌++◌, map, Option, Some, None, is_some, is_none, option_map, if◌then◌else◌, bytes_eq, string_bytes}
use Rattle.sp_command.specs.Outputs.{KeptOutput}
use Rattle.sp_disk.specs.Found.{FoundFiles}
use Rattle.sp_disk.specs.Made.{MadeFiles}
use Rattle.sp_disk.specs.declared.status.FileId.{FileId}
use Rattle.tests_jobs.specs.Memory.{text_in}
use Rattle.tests_jobs.specs.declared.stored.StoredFile.{StoredFile}
use Rattle.tests_jobs.specs.declared.made.CompleteFile.{CompleteFile}
use Rattle.tests_jobs.specs.declared.made.MemoryDevice.{MemoryDevice}

-- A path leads to the first file with that path, whose number is its index.
abbrev pub id_from : (first : ℕ) → List StoredFile → (path : List ℕ) → Option FileId
id_from first [] path = None
id_from first (file ∷ more) path = if bytes_eq file.path.now path then Some (record { device = 0; inode = first }) else id_from (first + 1) more path

-- All is known of what can be read.
abbrev pub found_in : List StoredFile → (stdin : List ℕ) → (terminal : Bool) → FoundFiles
found_in stored stdin terminal = record { text = text_in stored; opens = λ path. is_some (text_in stored path); absent = λ path. is_none (text_in stored path); id = λ path. Some (id_from 0 stored path); stdin = Some stdin; terminal = Some terminal }

-- This is the path of a device, if it has one.
abbrev pub path_in : MemoryDevice → Option (List ℕ)
path_in device = option_map (λ path. string_bytes path) device.path

-- This is what commands see of a file.
abbrev pub complete_of : CompleteFile → KeptOutput
complete_of file = record { path = string_bytes file.path; text = Some file.text.items }

-- The places with one more file, if it has a place.
abbrev pub with_file : (List ℕ → Option (List ℕ)) → CompleteFile → (List ℕ → Option (List ℕ))
with_file places file = elim file.place [ None ↦ places | Some place ↦ λ other. if bytes_eq other (string_bytes place) then Some file.text.items else places other ]

-- The places with all of these files, each of which replaces those before it.
abbrev pub with_files : (List ℕ → Option (List ℕ)) → List CompleteFile → (List ℕ → Option (List ℕ))
with_files places [] = places
with_files places (file ∷ more) = with_files (with_file places file) more

-- All is known of what was made.
abbrev pub made_in : List CompleteFile → (begun : ℕ) → MadeFiles
made_in complete begun = record { kept = Some (map complete_of complete); begun = Some begun; places = with_files (λ place. None) complete }

-- One of the files that are begun is complete.
abbrev pub with_complete : CompleteFile → MadeFiles → MadeFiles
with_complete file made = record { kept = option_map (λ kept. kept ++ complete_of file ∷ []) made.kept; begun = option_map (λ n. n - 1) made.begun; places = with_file made.places file }
