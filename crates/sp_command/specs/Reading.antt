-- What a command line says of a command.
use Rattle.std.specs.Prelude.{◌≡◌, ◌≢◌, ◌⊎◌, ℕ, List}
use Rattle.clap.specs.Values.{kind_of}
use Rattle.clap.specs.declared.error.Error.{Error}
use Rattle.clap.specs.declared.error.kind.ErrorKind.TheVariants.{OutOfMemory}
use Rattle.clap.specs.declared.parser.matches.Found.{Found}

-- A command of this name is read of what `clap` has found in its words.
abbrev pub IsNamed : {Command : Type 0} → (spelled : List ℕ) → (reads : Found → Command → Type 0) → (name : List ℕ) → Found → Command → Type 0
IsNamed spelled reads name found command = (name ≡ spelled) × reads found command

-- The name is another one, or what `clap` has found lacks something that the command needs.
abbrev pub IsUnnamed : (spelled : List ℕ) → (lacks : Found → Type 0) → (name : List ℕ) → Found → Type 0
IsUnnamed spelled lacks name found = (name ≢ spelled) ⊎ lacks found

-- The name is this one, and what `clap` has found lacks something that the command needs.
abbrev pub IsLacking : (spelled : List ℕ) → (lacks : Found → Type 0) → (name : List ℕ) → Found → Type 0
IsLacking spelled lacks name found = (name ≡ spelled) × lacks found

-- The error is that memory was refused, or something is lacking.
abbrev pub IsRefusedFor : (Lacks : Type 0) → Error → Type 0
IsRefusedFor Lacks error = (kind_of error ≡ OutOfMemory) ⊎ Lacks
