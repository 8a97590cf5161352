-- One of two commands.
use Rattle.sp_command.specs.declared.command.OneOf.{OneOf}
use Rattle.sp_command.specs.declared.command.OneOf.TheVariants.{First, Second}

-- This is what is said of that command.
abbrev pub either_of {ℓ} : {A B : Type 0} {Said : Type ℓ} → (A → Said) → (B → Said) → OneOf A B → Said
either_of of_first of_second (First command) = of_first command
either_of of_first of_second (Second command) = of_second command
