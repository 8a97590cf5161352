-- The sources of a command line.
use Rattle.std.specs.Prelude.{◌≡◌, ℕ, List, Option, Some, None, codes}
use Rattle.clap.specs.Matches.{first_value}
use Rattle.clap.specs.declared.parser.matches.Found.{Found}
use Rattle.sp_options.specs.declared.sources.Sources.{Sources}
use Rattle.sp_options.specs.declared.sources.Sources.TheVariants.{File, Part, Given}
use Rattle.sp_options.specs.Given.{AreGiven, LacksGiven}
use Rattle.sp_options.specs.Places.{ArePlacesIn}

-- A command line names these sources: those of its file; those at the places of its file that `--sources` spells; or,
-- where it has no file, the values of `--source`.
abbrev pub AreNamed : Found → Sources → Type 0
AreNamed found (File path) = (first_value found (codes "SS") ≡ Some path.now) × (first_value found (codes "sources") ≡ None)
AreNamed found (Part path places) = (first_value found (codes "SS") ≡ Some path.now) × ((word : List ℕ) × (first_value found (codes "sources") ≡ Some word) × ArePlacesIn word places)
AreNamed found (Given given) = (first_value found (codes "SS") ≡ None) × AreGiven found (codes "source") given.list.items

-- A command line names no sources.
abbrev pub NamesNone : Found → Type 0
NamesNone found = (first_value found (codes "SS") ≡ None) × LacksGiven found (codes "source")

-- This is the path of the file of a list.
abbrev pub path_of : Sources → Option (List ℕ)
path_of (File path) = Some path.now
path_of (Part path places) = Some path.now
path_of (Given given) = None
