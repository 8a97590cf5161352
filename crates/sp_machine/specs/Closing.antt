-- How a run is found to be closed.
use Rattle.std.specs.Prelude.{◌≡◌, Bool, ◌&&◌, nat_eq, List}
use Rattle.std.specs.Option.{option_eq}
use Rattle.std.specs.List.{list_any}
use Rattle.std.specs.HashSet.{HashSet, contains}
use Rattle.sp_machine.specs.declared.effect.Relaxation.{Relaxation}

-- The two relaxations are the same.
abbrev pub same_relaxation : Relaxation → Relaxation → Bool
same_relaxation a b = nat_eq a.tail b.tail && (nat_eq a.head b.head && (nat_eq a.len b.len && option_eq nat_eq a.loaded b.loaded))

-- The set has exactly these relaxations.
abbrev pub HasJust : {S : Type 0} → HashSet Relaxation S → List Relaxation → Type 0
HasJust set relaxed = (r : Relaxation) → contains same_relaxation set r ≡ list_any (same_relaxation r) relaxed
