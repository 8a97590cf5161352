-- A part of a list is one.
use Rattle.std.proofs.Common.{ℕ, ◌≤◌, ◌-◌, List, take, drop, length, Option, Some, None, arith}
use Rattle.std.proofs.lemmas.List.{length-take, length-drop}
use Rattle.std.proofs.lemmas.List.Elements.{All-take, All-drop}
use Rattle.sp_dimacs.specs.declared.sources.SsFile.{SsFile}
use Rattle.sp_dimacs.specs.Sources.{AreSourcesWithin}
use Rattle.sp_jobs.specs.Places.{part_of, AreNumbered}

-- It is no longer.
part_short : (a b most : ℕ) (xs : List ℕ) → length xs ≤ most → length (drop a (take b xs)) ≤ most
part_short a b most xs short = rw (length-drop a (take b xs), length-take b xs) (omega arith)

pub part_numbered : (places : Option (ℕ × ℕ)) (sources : List ℕ) → AreNumbered sources → AreNumbered (part_of places sources)
part_numbered None sources are = are
part_numbered (Some places) sources are = record {
  short = part_short (places.0 - 1) places.1 _ sources are.short;
  named = All-drop (λ s. 1 ≤ s) (places.0 - 1) (take places.1 sources) (All-take (λ s. 1 ≤ s) places.1 sources are.named);
}

-- So the sources of a file are numbered that stand at any places.
pub chosen_numbered : (P : ℕ) (places : Option (ℕ × ℕ)) (file : SsFile) → AreSourcesWithin P file → AreNumbered (part_of places file.sources.items)
chosen_numbered P places file within = part_numbered places file.sources.items (record { short = within.short; named = λ i d less. (within.sources i d less).least })
