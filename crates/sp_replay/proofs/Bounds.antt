-- What numbers are at most and at least, by their fields.
use Rattle.std.proofs.Common.{◌≡◌, ℕ, zero, suc, ◌<◌, ◌≤◌, Bool, true, false, ◌&&◌, cond, leb, List, [], ◌∷◌, length, Option, Some, None, refl, arith}
use Rattle.std.proofs.lemmas.Bool.{leb-true}
use Rattle.std.specs.Prelude.{slice_index, slice_get}
use Rattle.sp_text.specs.declared.formats.Ranges.{Ranges}
use Rattle.sp_text.specs.declared.formats.Field.{Field}
use Rattle.sp_text.specs.Text.{top, first_out}
use Rattle.sp_text.proofs.Digits.{and_parts}

test_passed : (b : Bool) (later : Option ℕ) (letter : ℕ) → cond b later (Some letter) ≡ None → (b ≡ true) × (later ≡ None)
test_passed true later letter h = (refl, h)
test_passed false later letter h = cc

pub at_most : (ranges : Ranges) (ps : List ℕ) (ds : List Field) (ns : List ℕ) (k : ℕ) (d : Field) → first_out ranges ps ds ns ≡ None → slice_get ds k ≡ Some d → slice_index ns k ≤ top ranges ps d.most
at_most ranges ps [] ns zero d h is = cc
at_most ranges ps [] ns (suc k) d h is = cc
at_most ranges ps (e ∷ ds) [] k d h is = omega arith
at_most ranges ps (e ∷ ds) (n ∷ ns) zero d h is =
    let passed = test_passed (leb e.least n && leb n (top ranges ps e.most)) (first_out ranges ps ds ns) e.letter h in
    let same : e ≡ d = cc in
    let most : n ≤ top ranges ps e.most = leb-true n (top ranges ps e.most) (and_parts (leb e.least n) (leb n (top ranges ps e.most)) passed.0).1 in
    rw same at most
at_most ranges ps (e ∷ ds) (n ∷ ns) (suc k) d h is =
    at_most ranges ps ds ns k d (test_passed (leb e.least n && leb n (top ranges ps e.most)) (first_out ranges ps ds ns) e.letter h).1 is

pub at_least : (ranges : Ranges) (ps : List ℕ) (ds : List Field) (ns : List ℕ) (k : ℕ) (d : Field) → first_out ranges ps ds ns ≡ None → slice_get ds k ≡ Some d → k < length ns → d.least ≤ slice_index ns k
at_least ranges ps [] ns zero d h is within = cc
at_least ranges ps [] ns (suc k) d h is within = cc
at_least ranges ps (e ∷ ds) [] k d h is within = absurd (omega arith)
at_least ranges ps (e ∷ ds) (n ∷ ns) zero d h is within =
    let passed = test_passed (leb e.least n && leb n (top ranges ps e.most)) (first_out ranges ps ds ns) e.letter h in
    let same : e ≡ d = cc in
    let least : e.least ≤ n = leb-true e.least n (and_parts (leb e.least n) (leb n (top ranges ps e.most)) passed.0).0 in
    rw same at least
at_least ranges ps (e ∷ ds) (n ∷ ns) (suc k) d h is within =
    at_least ranges ps ds ns k d (test_passed (leb e.least n && leb n (top ranges ps e.most)) (first_out ranges ps ds ns) e.letter h).1 is (omega arith)
