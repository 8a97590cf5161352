-- What brings each fault about.
use Rattle.std.specs.Prelude.{◌≡◌, ◌≢◌, ◌⊎◌, ℕ, true, false, List, [], ◌∷◌, Option, Some, codes}
use Rattle.sp_device.specs.Failing.{Never}
use Rattle.sp_text.specs.declared.faults.DimacsError.{DimacsError}
use Rattle.sp_text.specs.declared.faults.Kind.TheVariants as kind
use Rattle.sp_packed.specs.declared.faults.PackedFault.{PackedFault}
use Rattle.sp_packed.specs.declared.faults.PackedKind.TheVariants as packed
use Rattle.sp_command.specs.declared.faults.FileKind.{FileKind}
use Rattle.sp_command.specs.declared.faults.FileKind.TheVariants as role
use Rattle.sp_command.specs.declared.faults.Fault.{Fault}
use Rattle.sp_command.specs.declared.faults.Fault.TheVariants as fault
use Rattle.sp_command.specs.Scene.{Files, Scene}

-- These are the paths of a command's files, by their kinds.
abbrev pub Paths : Type 0
Paths = FileKind → Option (List ℕ)

-- A command opens its files in one order, and these kinds come before this one: the graph is opened first, and the sources
-- before the targets.
abbrev pub opened_before : FileKind → List FileKind
opened_before role.Graph = []
opened_before role.Sources = role.Graph ∷ []
opened_before role.Targets = role.Graph ∷ role.Sources ∷ []
opened_before role.Pairs = role.Graph ∷ []
opened_before role.Tree = role.Graph ∷ []
opened_before role.Replay = []
opened_before role.Offers = []

-- The command's file of this kind, if it has one, isn't absent.
abbrev pub IsPresent : Paths → Files → FileKind → Type 0
IsPresent paths files file = (path : List ℕ) → paths file ≡ Some path → files.absent path ≡ false

-- No file of the command is absent that is of one of these kinds.
abbrev pub ArePresent : Paths → Files → List FileKind → Type 0
ArePresent paths files [] = Unit {0}
ArePresent paths files (file ∷ more) = IsPresent paths files file × ArePresent paths files more

-- The command has a file of this kind, which isn't opened for certain. No file that it opens before is absent.
abbrev pub MayStayClosed : Paths → Files → FileKind → Type 0
MayStayClosed paths files file = (path : List ℕ) × (paths file ≡ Some path) × (files.opens path ≡ false) × ArePresent paths files (opened_before file)

-- The command has a file of this kind. If the fault is that its device failed, then that device may fail.
abbrev pub MayBeRefused : Paths → Files → FileKind → DimacsError → Type 0
MayBeRefused paths files file error = (path : List ℕ) × (paths file ≡ Some path) × (error.kind ≡ kind.Read → files.failing path ≢ Never)

-- The command has a graph. If the fault is that its device failed, then that device may fail.
abbrev pub MayBeOtherwise : Paths → Files → PackedFault → Type 0
MayBeOtherwise paths files error = (path : List ℕ) × (paths role.Graph ≡ Some path) × (error.kind ≡ packed.Read → files.failing path ≢ Never)

-- Standard input is named for files of two kinds.
abbrev pub NamesInputTwice : Paths → Type 0
NamesInputTwice paths = (one : FileKind) × (other : FileKind) × (one ≢ other) × (paths one ≡ Some (codes "-")) × (paths other ≡ Some (codes "-"))

-- The command has a file of this kind. Nothing says that an output of this path goes to another file.
abbrev pub MayBeOutput : Paths → Files → (output : List ℕ) → FileKind → Type 0
MayBeOutput paths files output file = (path : List ℕ) × (paths file ≡ Some path) × (files.same output path ≢ Some false)

-- A file of this kind, if the command has one, isn't known to be the one to which an output of this path goes.
abbrev pub IsSpared : Paths → Files → (output : List ℕ) → FileKind → Type 0
IsSpared paths files output file = (path : List ℕ) → paths file ≡ Some path → files.same output path ≢ Some true

-- No file of the command is known to be the one to which an output of this path goes.
abbrev pub SparesInputs : Paths → Files → (output : List ℕ) → Type 0
SparesInputs paths files output = (file : FileKind) → IsSpared paths files output file

-- Something in the scene brings the fault about, where a command has these paths, and its words or the texts of its
-- files may bring about these faults of its own. No command tells a fault of the words that `clap` finds, or of a file
-- for the output.
abbrev pub IsBorneOut : Paths → (own : Fault → Type 0) → Scene → Fault → Type 0
IsBorneOut paths own s (fault.CannotOpen file) = MayStayClosed paths s.files file
IsBorneOut paths own s (fault.Input file error) = MayBeRefused paths s.files file error
IsBorneOut paths own s (fault.Packed error) = MayBeOtherwise paths s.files error
IsBorneOut paths own s fault.InputTwice = NamesInputTwice paths
IsBorneOut paths own s fault.WriteFailed = s.failed ≡ true
IsBorneOut paths own s fault.Memory = Unit {0}
IsBorneOut paths own s (fault.Usage error) = ⊥
IsBorneOut paths own s fault.CannotWrite = ⊥
IsBorneOut paths own s (fault.OutputIsInput file) = ⊥
IsBorneOut paths own s other = own other

-- A file of this kind, with this path, wasn't opened, and nothing says that it is.
abbrev pub StaysClosed : Files → FileKind → (path : List ℕ) → Fault → Type 0
StaysClosed files file path why = (why ≡ fault.CannotOpen file) × (files.opens path ≡ false)

-- The same, after a file of another path that isn't absent.
abbrev pub StaysClosedAfter : Files → (first : List ℕ) → FileKind → (path : List ℕ) → Fault → Type 0
StaysClosedAfter files first file path why = StaysClosed files file path why × (files.absent first ≡ false)
