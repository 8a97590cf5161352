-- What a formatter writes by a writer of lines.
use Rattle.std.proofs.Common.{◌≡◌, ℕ, true, List, [], ◌∷◌, ◌++◌, Option, Some, Result, Ok, Err, OnOk, OnErr, is_ok, sym, ◌∙◌, subst, inl, inr}
use Rattle.std.proofs.lemmas.Bool.{and_parts, false≢true}
use Rattle.std.proofs.lemmas.List.Folds.{list_all-append}
use Rattle.std.specs.Fmt.{WritesInCalls, WritesText}
use Rattle.std.specs.Io.KnownBytes.{Appends}
use Rattle.std.specs.List.{FoldsTo, concat, list_all}
use Rattle.sp_device.specs.declared.devices.Write.{Ghosts as Writer}
use Rattle.sp_device.specs.Devices.{IsBegun}
use Rattle.sp_command.specs.Lines.{IsPlain, MayShow, is_plain}

parts_plain : (front rest : List ℕ) → IsPlain (front ++ rest) → IsPlain front × IsPlain rest
parts_plain front rest plain = and_parts (list_all is_plain front) (list_all is_plain rest) (sym (list_all-append is_plain front rest) ∙ plain)

each_taken : {W : Type 0} (took : W → List ℕ → W → Type 0) (w : W) (parts : List (List ℕ)) (v : W) → IsPlain (concat parts) → FoldsTo (λ s text t. IsPlain text → took s text t) w parts v → FoldsTo took w parts v
each_taken took w [] v plain is = is
each_taken took w (part ∷ parts) v plain is =
    let split = parts_plain part (concat parts) plain in
    (is.0, is.1 split.0, each_taken took is.0 parts v split.1 is.2)

-- What is said of calls with plain texts is said of all calls that write a plain text.
plain_calls : {W : Type 0} (took : W → List ℕ → W → Type 0) (w : W) (text : List ℕ) (v : W) → IsPlain text → WritesInCalls (λ s part t. IsPlain part → took s part t) w text v → WritesInCalls took w text v
plain_calls took w text v plain is = record {
  parts = is.parts;
  calls = each_taken took w is.parts v (subst IsPlain (sym is.whole) plain) is.calls;
  whole = is.whole;
}

-- The calls that write the text of a value, if it is known and plain.
pub text_taken : {W E : Type 0} (took : W → List ℕ → W → Type 0) (w : W) (output : Option (List ℕ)) (v : W) (result : Result (Unit {0}) E) (text : List ℕ)
    → output ≡ Some text → IsPlain text → is_ok result ≡ true → OnOk result (WritesText (λ s part t. IsPlain part → took s part t) w output v) → WritesInCalls took w text v
text_taken took w output v (Ok done) text known plain is given = plain_calls took w text v plain (subst (λ o. WritesText (λ s part t. IsPlain part → took s part t) w o v) known given)
text_taken took w output v (Err e) text known plain is given = absurd (false≢true is)

-- What a write of all bytes leaves of their text.
pub may_show : {W T E : Type 0} (w : Writer W) (bytes text : List ℕ) (old : W) (result : Result T E) (new : W) → bytes ≡ text
    → OnOk result (Appends (w.written old) (w.written new) bytes) → OnErr result (IsBegun bytes (w.written old) (w.written new)) → OnErr result (w.has_failed new ≡ true) → MayShow w text old new
may_show w bytes text old (Ok done) new is wrote begun failed = inr (inl (subst (λ (t : List ℕ). Appends (w.written old) (w.written new) t) is wrote))
may_show w bytes text old (Err e) new is wrote begun failed = inr (inr (subst (λ (t : List ℕ). IsBegun t (w.written old) (w.written new)) is begun, failed))
