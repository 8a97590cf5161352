-- The sources and the targets of a command line.
use Rattle.std.specs.Prelude.{◌≡◌, ◌≢◌, ◌⊎◌, ℕ, List, Option, Some, None, codes}
use Rattle.clap.specs.Matches.{first_value}
use Rattle.clap.specs.declared.parser.matches.Found.{Found}
use Rattle.sp_options.specs.declared.lists.Lists.{Lists}
use Rattle.sp_options.specs.declared.sources.Sources.{Sources}
use Rattle.sp_options.specs.declared.sources.Sources.TheVariants.{File, Part, Given}
use Rattle.sp_options.specs.Given.{AreGiven, HasGiven, LacksGiven}
use Rattle.sp_options.specs.Sources.{AreNamed, NamesNone}

-- A list is all of the file that this argument names.
abbrev pub IsFile : Found → (name : List ℕ) → Sources → Type 0
IsFile found name (File path) = first_value found name ≡ Some path.now
IsFile found name (Part path places) = ⊥
IsFile found name (Given given) = ⊥

-- A list is the values of the option of this name.
abbrev pub AreOptions : Found → (name : List ℕ) → Sources → Type 0
AreOptions found name (File path) = ⊥
AreOptions found name (Part path places) = ⊥
AreOptions found name (Given given) = AreGiven found name given.list.items

-- The sources are the values of `--source`, and the targets those of the one file.
abbrev pub HaveFileOfTargets : Found → Lists → Type 0
HaveFileOfTargets found lists = AreOptions found (codes "source") lists.sources × IsFile found (codes "SS") lists.targets

-- There is no file, or no value of `--source`.
abbrev pub LackFileOfTargets : Found → Type 0
LackFileOfTargets found = (first_value found (codes "SS") ≡ None) ⊎ LacksGiven found (codes "source")

-- Beside targets that are given, these are the sources: those of the one file, and no values of `--source` are with it; or such values.
abbrev pub AreBeside : Found → Sources → Type 0
AreBeside found sources = AreNamed found sources × LackFileOfTargets found

-- Beside targets that are given there are no sources, or both a file and values of `--source`.
abbrev pub LackBeside : Found → Type 0
LackBeside found = NamesNone found ⊎ ((first_value found (codes "SS") ≢ None) × HasGiven found (codes "source"))

-- A command line has these lists: a second file, of targets, and sources; or without such a file targets that are the values of
-- `--target`, and sources beside them; or sources that are given, and a file of targets.
abbrev pub AreListed : Found → Lists → Type 0
AreListed found lists = (IsFile found (codes "TARGETS") lists.targets × AreNamed found lists.sources)
    ⊎ ((first_value found (codes "TARGETS") ≡ None)
    × ((AreOptions found (codes "target") lists.targets × AreBeside found lists.sources) ⊎ (LacksGiven found (codes "target") × HaveFileOfTargets found lists)))

-- In each of these cases something is lacking.
abbrev pub ListsNone : Found → Type 0
ListsNone found = ((first_value found (codes "TARGETS") ≢ None) × NamesNone found)
    ⊎ ((first_value found (codes "TARGETS") ≡ None)
    × ((HasGiven found (codes "target") × LackBeside found) ⊎ (LacksGiven found (codes "target") × LackFileOfTargets found)))
