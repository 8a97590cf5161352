-- What is known of the files that a command finds, and of the streams.
use Rattle.std.specs.Prelude.{◌≡◌, ℕ, Bool, true, false, ◌==◌, List, Option, Some, None, option_map, if◌then◌else◌, bytes_eq, codes}
use Rattle.sp_device.specs.Failing.{Anytime}
use Rattle.sp_command.specs.Scene.{Files}
use Rattle.sp_disk.specs.declared.status.FileId.{FileId}
use Rattle.sp_disk.specs.declared.status.FileStatus.{FileStatus}

-- For each path, this has the text of its file, if that is known; whether the file is opened for certain, or is absent, so that
-- it is certain not to be opened; and which regular file the path leads to, or that it leads to none, if that is known. It has
-- the text that standard input gives, and whether standard output is a terminal, if these are known.
pub record FoundFiles : Type 0 where
  pub text : List ℕ → Option (List ℕ)
  pub opens : List ℕ → Bool
  pub absent : List ℕ → Bool
  pub id : List ℕ → Option (Option FileId)
  pub stdin : Option (List ℕ)
  pub terminal : Option Bool

-- Of the files of a host nothing is known.
abbrev pub unknown_found : FoundFiles
unknown_found = record { text = λ path. None; opens = λ path. false; absent = λ path. false; id = λ path. None; stdin = None; terminal = None }

-- The answer is what is known, if anything is.
abbrev pub Tells : {A : Type 0} → (known : Option A) → (answer : A) → Type 0
Tells {A} known answer = (told : A) → known ≡ Some told → answer ≡ told

-- Which regular file the system answers of, if it does.
abbrev pub id_of : Option FileStatus → Option FileId
id_of status = option_map (λ status. status.id) status

-- ## What commands know of them

-- The path of standard input.
abbrev pub dash : List ℕ
dash = codes "-"

-- The path of the device that standard input is.
abbrev pub stdin_device : List ℕ
stdin_device = codes "/dev/stdin"

-- The path of an input, where `-` is standard input.
abbrev pub named : (path : List ℕ) → List ℕ
named path = if bytes_eq path dash then stdin_device else path

-- Both identities are known, and of one regular file.
abbrev pub is_one : Option FileId → Option FileId → Bool
is_one None b = false
is_one (Some a) None = false
is_one (Some a) (Some b) = if a.device == b.device then a.inode == b.inode else false

-- Whether both are one regular file, if both are known.
abbrev pub same_of : (output input : Option (Option FileId)) → Option Bool
same_of None input = None
same_of (Some output) None = None
same_of (Some output) (Some input) = Some (is_one output input)

-- An output that is a terminal may still be replaced by a file.
abbrev pub shown_of : Option Bool → Option Bool
shown_of (Some false) = Some false
shown_of (Some true) = None
shown_of None = None

-- The path `-` is standard input, which is always opened. Each other path has the text of its file.
abbrev pub files_of : FoundFiles → Files
files_of found = record {
  text = λ path. if bytes_eq path dash then found.stdin else found.text path;
  opens = λ path. if bytes_eq path dash then true else found.opens path;
  absent = λ path. if bytes_eq path dash then false else found.absent path;
  failing = λ path. Anytime;
  shown = shown_of found.terminal;
  same = λ output input. same_of (found.id output) (found.id (named input));
}
