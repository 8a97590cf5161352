-- What is known of the files that are made for output.
use Rattle.std.specs.Prelude.{◌≡◌, ℕ, ◌+◌, ◌-◌, Bool, false, List, [], ◌∷◌, ◌++◌, Option, Some, None}
use Rattle.std.specs.Option.{option_map}
use Rattle.sp_device.specs.declared.devices.Write.{Ghosts as Writer}

-- A file that was kept has a path, and a text, if that is known.
pub record KeptOutput : Type 0 where
  pub path : List ℕ
  pub text : Option (List ℕ)

-- The outputs are the files that were kept, in their order, if they are known; how many are begun, and neither kept nor
-- removed yet, if that is known; and whether a file is made and kept for certain, for each path.
pub record OutputFiles : Type 0 where
  pub kept : Option (List KeptOutput)
  pub begun : Option ℕ
  pub takes : List ℕ → Bool

-- Of the outputs of a system nothing is known.
abbrev pub unknown_outputs : OutputFiles
unknown_outputs = record { kept = None; begun = None; takes = λ path. false }

-- One more file was kept.
abbrev pub with_kept : OutputFiles → (path : List ℕ) → (text : Option (List ℕ)) → OutputFiles
with_kept outputs path text = record { kept = option_map (λ kept. kept ++ record { path = path; text = text } ∷ []) outputs.kept; begun = outputs.begun; takes = outputs.takes }

-- One more file is begun.
abbrev pub with_begun : OutputFiles → OutputFiles
with_begun outputs = record { kept = outputs.kept; begun = option_map (λ n. n + 1) outputs.begun; takes = outputs.takes }

-- A file that was begun has come to its end: it was kept, or removed.
abbrev pub with_ended : OutputFiles → OutputFiles
with_ended outputs = record { kept = outputs.kept; begun = option_map (λ n. n - 1) outputs.begun; takes = outputs.takes }

-- Nothing was written, as far as it is known.
abbrev pub IsBlank : Option (List ℕ) → Type 0
IsBlank written = (text : List ℕ) → written ≡ Some text → text ≡ []
