-- Lists of sources or of targets: what they ask for, and what is read of them.
use Rattle.std.specs.Prelude.{◌≡◌, ◌≢◌, ℕ, Bool, List, Option, Some, Err}
use Rattle.sp_device.specs.Failing.{Failing, Never}
use Rattle.sp_device.specs.declared.devices.Read.{Ghosts as Reader}
use Rattle.sp_text.specs.declared.faults.DimacsError.{DimacsError}
use Rattle.sp_text.specs.declared.faults.Kind.TheVariants as kind
use Rattle.sp_dimacs.specs.declared.sources.SsFile.{SsFile}
use Rattle.sp_dimacs.specs.Sources.{SpellsSources, SourcesRead, AreSourcesWithin}
use Rattle.sp_jobs.specs.Places.{part_of, AreNumbered}
use Rattle.sp_jobs.specs.declared.listing.Listing.{Listing}
use Rattle.sp_jobs.specs.declared.listing.Listing.TheVariants as listing
use Rattle.sp_jobs.specs.declared.listing.Listed.{Listed}
use Rattle.sp_jobs.specs.declared.listing.Listed.TheVariants as listed

-- ## What is asked for

-- the numbers at some places of a text, or all of it; or these
pub data AskedList : Type 0 where
  InText : (places : Option (ℕ × ℕ)) → (text : List ℕ) → AskedList
  These : (numbers : List ℕ) → AskedList

-- these are they
abbrev pub AreAsked : (P : ℕ) → AskedList → (numbers : List ℕ) → Type 0
AreAsked P (InText places text) numbers = (list : SsFile) × SpellsSources P text list × (numbers ≡ part_of places list.sources.items)
AreAsked P (These given) numbers = numbers ≡ given

-- a reader refuses their text, whatever it leaves of it, and whether its device fails or not
abbrev pub AreRefused : (P : ℕ) → AskedList → DimacsError → Type 0
AreRefused P (InText places text) e = (left : Option (List ℕ)) × (failed : Bool) × SourcesRead P text left failed (Err e)
AreRefused P (These given) e = ⊥

-- ## Lists

-- what the list asks for, if its text is this one
abbrev pub asked_in : {S : Type 0} → Listing S → (text : List ℕ) → AskedList
asked_in (listing.InText device places) text = InText places text
asked_in (listing.These numbers) text = These numbers.now

-- Its device has this text left, if it has a device.
abbrev pub HasLeft : {S : Type 0} → Reader S → Listing S → (text : List ℕ) → Type 0
HasLeft s (listing.InText device places) text = s.left device ≡ Some text
HasLeft s (listing.These numbers) text = Unit {0}

-- Numbers that are given are no more than a list may have, and each is at least 1.
abbrev pub IsNumbered : {S : Type 0} → Listing S → Type 0
IsNumbered (listing.InText device places) = Unit {0}
IsNumbered (listing.These numbers) = AreNumbered numbers.now

-- If a device has failed, then it may fail.
abbrev pub MayRead : Failing → DimacsError → Type 0
MayRead device e = e.kind ≡ kind.Read → device ≢ Never

-- It is a text that is refused; and if that is because its device has failed, then that may fail.
abbrev pub MayRefuse : {S : Type 0} → Reader S → Listing S → DimacsError → Type 0
MayRefuse s (listing.InText device places) e = MayRead (s.failing device) e
MayRefuse s (listing.These numbers) e = ⊥

-- ## What is read

-- the numbers that were read of a list
abbrev pub numbers_of : Listed → List ℕ
numbers_of (listed.Spelled list places) = part_of places list.sources.items
numbers_of (listed.These numbers) = numbers.now

-- They are within the format, and a word of the layout can name those of a text.
abbrev pub IsReadBy : (P : ℕ) → Listed → Type 0
IsReadBy P (listed.Spelled list places) = AreSourcesWithin P list
IsReadBy P (listed.These numbers) = AreNumbered numbers.now
