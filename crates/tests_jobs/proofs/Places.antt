-- What is known of the files that were made, where one more is complete.
use Rattle.std.proofs.Common.{◌≡◌, refl, ap, ◌∙◌, ℕ, ◌-◌, List, [], ◌∷◌, ◌++◌, Option, Some, None, map}
use Rattle.tests_jobs.specs.InMemory.{complete_of, made_in, with_complete, with_file, with_files}
use Rattle.tests_jobs.specs.declared.made.CompleteFile.{CompleteFile}

places_behind : (places : List ℕ → Option (List ℕ)) (files : List CompleteFile) (file : CompleteFile) → with_files places (files ++ file ∷ []) ≡ with_file (with_files places files) file
places_behind places [] file = refl
places_behind places (first ∷ files) file = places_behind (with_file places first) files file

kept_behind : (files : List CompleteFile) (file : CompleteFile) → map complete_of (files ++ file ∷ []) ≡ map complete_of files ++ complete_of file ∷ []
kept_behind [] file = refl
kept_behind (first ∷ files) file = ap (λ rest. complete_of first ∷ rest) (kept_behind files file)

pub made_behind : (files : List CompleteFile) (file : CompleteFile) (begun : ℕ) → made_in (files ++ file ∷ []) (begun - 1) ≡ with_complete file (made_in files begun)
made_behind files file begun =
    ap (λ places. record { kept = Some (map complete_of (files ++ file ∷ [])); begun = Some (begun - 1); places = places }) (places_behind (λ place. None) files file)
    ∙ ap (λ kept. record { kept = Some kept; begun = Some (begun - 1); places = with_file (with_files (λ place. None) files) file }) (kept_behind files file)
