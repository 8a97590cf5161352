-- A command line that lacks a number of workers.
use Rattle.std.proofs.Common.{◌≡◌, ◌∙◌, ℕ, Bool, true, false, List, Option, Some, None, Result, Ok, Err, sym, ap, subst}
use Rattle.std.proofs.lemmas.Bool.{false≢true}
use Rattle.std.specs.Prelude.{codes}
use Rattle.clap.specs.Matches.{first_value}
use Rattle.clap.specs.declared.parser.matches.Found.{Found}
use Rattle.sp_options.specs.Running.{LacksCrew}
use Rattle.sp_options.specs.Workers.{SpellsWorkers}

-- Where the word for the workers spells none, they are lacking.
pub lacks_crew : (found : Found) (word : List ℕ) → Some word ≡ first_value found (codes "workers") → ((workers : ℕ) → SpellsWorkers word workers → ⊥) → LacksCrew found
lacks_crew found word is none = λ other workers named spelled.
    let same : word ≡ other = (let both : Some word ≡ Some other = is ∙ named in cc) in
    none workers (subst (λ w. SpellsWorkers w workers) (sym same) spelled)

abbrev pub is_found : {T E : Type 0} → Result (Option T) E → Bool
is_found (Ok (Some value)) = true
is_found (Ok None) = false
is_found (Err e) = false

pub none_found : {T E : Type 0} (result : Result (Option T) E) (value : T) → is_found result ≡ false → result ≡ Ok (Some value) → ⊥
none_found result value none found = false≢true (sym none ∙ ap is_found found)
