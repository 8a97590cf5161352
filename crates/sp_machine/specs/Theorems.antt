-- Theorems about every run.
use Rattle.std.specs.Prelude.{ℕ, ◌-◌, ◌*◌, ◌≤◌, List, All}
use Rattle.sp_word.specs.Word.{max_dist}
use Rattle.sp_paths.specs.Paths.{word_at, EndsInTree}
use Rattle.sp_machine.specs.Programme.{Programme, IsProgramme, IsNumber, opening_words}
use Rattle.sp_machine.specs.Run.{run_of, IsClosed}
use Rattle.sp_machine.specs.Relaxing.{graph_of, RelaxesFrom}
use Rattle.sp_machine.specs.Linear.{IsLinear}

-- Every run is linear: its finished calls are a legal history that ends in the machine's words.
abbrev pub EveryRunIsLinear : Type 0
EveryRunIsLinear = (P : ℕ) (p : Programme P) (actors : List ℕ) → IsProgramme p → All (IsNumber p.actors) actors
    → IsLinear p.words (word_at (opening_words p)) (run_of p actors).log.calls (word_at (run_of p actors).machine.words)

-- With K actors the lost exchanges number at most K - 1 times the won ones.
abbrev pub LossesAreBounded : Type 0
LossesAreBounded = (P : ℕ) (p : Programme P) (actors : List ℕ) → IsProgramme p → All (IsNumber p.actors) actors
    → (run_of p actors).log.losses ≤ (p.actors - 1) * (run_of p actors).log.wins

-- A closed run of relaxations and reads, in any interleaving, ends in the tree of the arcs that it relaxes.
abbrev pub ClosedRunEndsInTree : Type 0
ClosedRunEndsInTree = (P : ℕ) (p : Programme P) (actors : List ℕ) (s : ℕ) → IsProgramme p → All (IsNumber p.actors) actors → RelaxesFrom p s → IsClosed p (run_of p actors).machine.words (run_of p actors).log.relaxed
    → EndsInTree (graph_of p) s (max_dist P) (word_at (run_of p actors).machine.words)
