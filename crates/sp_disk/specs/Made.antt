-- What is known of the files that are made.
use Rattle.std.specs.Prelude.{ℕ, ◌+◌, ◌-◌, Bool, false, List, [], ◌∷◌, ◌++◌, Option, None, option_map, bytes_eq, string_bytes, if◌then◌else◌}
use Rattle.sp_command.specs.Outputs.{KeptOutput, OutputFiles}
use Rattle.sp_disk.specs.Found.{Tells}
use Rattle.sp_disk.specs.declared.sink.Sink.{Sink}
use Rattle.sp_disk.specs.declared.sink.Sink.TheVariants.{Part, Device}

-- ## What a system knows of them

-- These are the files that were completed, in their order, with the paths that were given for them, if they are known; how
-- many are begun, and neither completed nor removed yet, if that is known; and for each place the text of the file that was
-- put there last, if it is known.
pub record MadeFiles : Type 0 where
  pub kept : Option (List KeptOutput)
  pub begun : Option ℕ
  pub places : List ℕ → Option (List ℕ)

-- Of the files that a host makes nothing is known.
abbrev pub unknown_made : MadeFiles
unknown_made = record { kept = None; begun = None; places = λ place. None }

-- One more file is begun.
abbrev pub one_more : MadeFiles → MadeFiles
one_more made = record { kept = made.kept; begun = option_map (λ n. n + 1) made.begun; places = made.places }

-- A file that was begun is gone.
abbrev pub one_gone : MadeFiles → MadeFiles
one_gone made = record { kept = made.kept; begun = option_map (λ n. n - 1) made.begun; places = made.places }

-- A file that was begun is complete: it was made for this path, and has this text.
abbrev pub completed : MadeFiles → (path : List ℕ) → (text : Option (List ℕ)) → MadeFiles
completed made path text = record { kept = option_map (λ kept. kept ++ record { path = path; text = text } ∷ []) made.kept; begun = option_map (λ n. n - 1) made.begun; places = made.places }

-- The file at this place has this text. All other places are as before.
abbrev pub with_place : MadeFiles → (place : List ℕ) → (text : Option (List ℕ)) → MadeFiles
with_place made place text = record { kept = made.kept; begun = made.begun; places = λ other. if bytes_eq other place then text else made.places other }

-- What a file is known to hold even after a crash of the system: its text, if all of it lasts.
abbrev pub held : (written : Option (List ℕ)) → (lasts : Bool) → Option (List ℕ)
held written lasts = if lasts then written else None

-- ## What a command knows of them

-- Of no path it is certain that a file is made and kept there.
abbrev pub outputs_of : MadeFiles → OutputFiles
outputs_of made = record { kept = made.kept; begun = made.begun; takes = λ path. false }

-- This was written to a file with a name of its own, or directly.
abbrev pub written_to : {P D : Type 0} → (P → Option (List ℕ)) → (D → Option (List ℕ)) → Sink P D → Option (List ℕ)
written_to part device (Part file) = part file.part
written_to part device (Device direct) = device direct

-- What is written directly has this path, if its path is known.
abbrev pub GoesTo : {P D : Type 0} → (path_of : D → Option (List ℕ)) → Sink P D → (path : List ℕ) → Type 0
GoesTo path_of (Part file) path = Unit {0}
GoesTo path_of (Device direct) path = Tells (path_of direct) path

-- What was written is complete, and was made for this path; a file with a name of its own has taken its place.
abbrev pub kept_in : {P D : Type 0} → (P → Option (List ℕ)) → (D → Option (List ℕ)) → Sink P D → (path : List ℕ) → MadeFiles → MadeFiles
kept_in part device (Part file) path made = with_place (completed made path (part file.part)) (string_bytes file.place) (part file.part)
kept_in part device (Device direct) path made = completed made path (device direct)
