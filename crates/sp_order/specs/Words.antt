-- What the words of a command line ask for.
use Rattle.std.specs.Prelude.{◌≡◌, ◌≢◌, ℕ, Bool, true, false, List, Option, Some, None, codes, is_some, option_map}
use Rattle.clap.specs.Matches.{first_value}
use Rattle.clap.specs.declared.error.kind.ErrorKind.{ErrorKind}
use Rattle.clap.specs.declared.error.kind.ErrorKind.TheVariants as kind
use Rattle.clap.specs.declared.parser.matches.Found.{Found}
use Rattle.sp_order.specs.declared.order.Order.{Order}
use Rattle.sp_order.specs.declared.order.Order.TheVariants.{Show, Run}

-- Help or the version was asked for, which is no fault.
abbrev pub is_text : ErrorKind → Bool
is_text kind.DisplayHelp = true
is_text kind.DisplayVersion = true
is_text _ = false

-- The output goes to a file.
abbrev pub names_output : {C T : Type 0} → Order C T → Bool
names_output (Show text) = false
names_output (Run command pred_bits output places) = is_some output

-- This is the path of that file.
abbrev pub output_of : {C T : Type 0} → Order C T → Option (List ℕ)
output_of (Show text) = None
output_of (Run command pred_bits output places) = option_map (λ path. path.now) output

-- The value of `--output` is this path, and not `-`, which is standard output.
abbrev pub NamesOutput : Found → (path : List ℕ) → Type 0
NamesOutput found path = (first_value found (codes "output") ≡ Some path) × (path ≢ codes "-")

-- It is no path.
abbrev pub NamesNoOutput : Found → Type 0
NamesNoOutput found = (path : List ℕ) → first_value found (codes "output") ≡ Some path → path ≡ codes "-"
