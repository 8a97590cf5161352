use Rattle.std.proofs.Common.{◌≡◌, ℕ, Bool, List, Option, Some, Result, Err, MatchResult, refl, sym, subst, rules}
use Rattle.sp_device.specs.declared.devices.Read.{Ghosts as Reader}
use Rattle.sp_text.specs.declared.faults.DimacsError.{DimacsError}
use Rattle.sp_dimacs.specs.declared.sources.SsFile.{SsFile}
use Rattle.sp_dimacs.specs.Sources.{SourcesRead, SpellsSources}
use Rattle.sp_jobs.specs.Places.{part_of}
use Rattle.sp_jobs.proofs.Files.{sources_spelled}
use Rattle.sp_jobs.specs.declared.listing.Listing.{Listing}
use Rattle.sp_jobs.specs.declared.listing.Listing.TheVariants as listing
use Rattle.sp_jobs.specs.declared.listing.Listed.{Listed}
use Rattle.sp_jobs.specs.Listing.{AreAsked, AreRefused, HasLeft, asked_in, numbers_of}
use Rattle.sp_jobs.proofs.listing.Listing.read.Goals as goal

-- A text that a reader refuses is refused.
refused : {S : Type 0} (P : ℕ) (s : Reader S) (list : Listing S) (device : S) (places : Option (ℕ × ℕ)) (text : List ℕ) (left : Option (List ℕ)) (failed : Bool) (e : DimacsError) (result : Result Listed DimacsError)
    → list ≡ listing.InText device places → result ≡ Err e → (s.left device ≡ Some text → SourcesRead P text left failed (Err e)) → HasLeft s list text
    → MatchResult result (λ listed. AreAsked P (asked_in list text) (numbers_of listed)) (AreRefused P (asked_in list text))
refused P s list device places text left failed e result is told read has =
    let has_left : HasLeft s (listing.InText device places) text = subst (λ l. HasLeft s l text) is has in
    subst (λ r. MatchResult r (λ listed. AreAsked P (asked_in list text) (numbers_of listed)) (AreRefused P (asked_in list text))) (sym told)
    (subst (λ l. AreRefused P (asked_in l text) e) (sym is) (left, failed, read has_left))

-- A text that a reader takes has the numbers at the places of what it spells.
taken : {S : Type 0} (P : ℕ) (list : Listing S) (device : S) (places : Option (ℕ × ℕ)) (text : List ℕ) (file : SsFile)
    → list ≡ listing.InText device places → SpellsSources P text file → AreAsked P (asked_in list text) (part_of places file.sources.items)
taken P list device places text file is spelled = subst (λ l. AreAsked P (asked_in l text) (part_of places file.sources.items)) (sym is) (file, spelled, refl)

pub returns-in_err-list-in-InText-clause-exact : goal.returns-in_err-list-in-InText-clause-exact
returns-in_err-list-in-InText-clause-exact g c = λ text has.
    let told : c.from_residual.result ≡ Err c.in_err-list-in-InText.field-0.0 = search rules in
    refused g.row.P g.S.Read c.args.self c.in-InText.device c.in-InText.places text _ (g.S.Read.has_failed c.read_ss.new.reader) c.in_err-list-in-InText.field-0.0 c.from_residual.result c.in-InText.is told (c.in_err-list-in-InText.ensures.exact text) has

pub returns-in_ok-list-in-InText-clause-exact : goal.returns-in_ok-list-in-InText-clause-exact
returns-in_ok-list-in-InText-clause-exact g c = λ text has.
    let has_left : HasLeft g.S.Read (listing.InText c.in-InText.device c.in-InText.places) text = subst (λ l. HasLeft g.S.Read l text) c.in-InText.is has in
    taken g.row.P c.args.self c.in-InText.device c.in-InText.places text c.in_ok-list-in-InText.list c.in-InText.is
    (sources_spelled g.row.P text _ (g.S.Read.has_failed c.read_ss.new.reader) c.in_ok-list-in-InText.list (c.in_ok-list-in-InText.ensures.exact text has_left))

pub returns-in_ok-list-in-InText-clause-found : goal.returns-in_ok-list-in-InText-clause-found
returns-in_ok-list-in-InText-clause-found g c =
    (c.in_ok-list-in-InText.ensures.found.0, taken g.row.P c.args.self c.in-InText.device c.in-InText.places c.in_ok-list-in-InText.ensures.found.0 c.in_ok-list-in-InText.list c.in-InText.is c.in_ok-list-in-InText.ensures.found.1)
