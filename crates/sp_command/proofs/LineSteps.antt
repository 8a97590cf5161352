-- Texts that are written one after the other.
use Rattle.std.proofs.Common.{◌≡◌, ℕ, zero, suc, ◌+◌, ◌<◌, true, List, [], ◌∷◌, ◌++◌, length, take, drop, get_or, Option, Some, Result, Ok, Err, OnOk, OnErr, IsErr, Bor, refl, sym, ap, ◌∙◌, subst, append_assoc, unwrap_or, arith}
use Rattle.std.proofs.lemmas.Bool.{false≢true}
use Rattle.std.specs.Io.KnownBytes.{Appends}
use Rattle.sp_device.specs.declared.devices.Write.{Ghosts as Writer}
use Rattle.sp_device.specs.Devices.{IsBegun}
use Rattle.sp_device.proofs.TextSteps.{begun_behind, begun_more}
use Rattle.sp_command.specs.declared.faults.Fault.{Fault}
use Rattle.sp_command.specs.Lines.{IsWritten, IsLineWritten, joined, line_of}

-- Texts are those before one of them, that one, and those behind it.
joined_at : (d : Bor (List ℕ)) (texts : List (Bor (List ℕ))) (k : ℕ) → k < length texts → joined texts ≡ (joined (take k texts) ++ (get_or texts k d).now) ++ joined (drop (suc k) texts)
joined_at d [] k within = absurd (omega (arith, within))
joined_at d (text ∷ texts) zero within = refl
joined_at d (text ∷ texts) (suc k) within =
    ap (λ (t : List ℕ). text.now ++ t) (joined_at d texts k (omega (arith, within)))
    ∙ (sym (append_assoc text.now (joined (take k texts) ++ (get_or texts k d).now) (joined (drop (suc k) texts)))
    ∙ ap (λ (t : List ℕ). t ++ joined (drop (suc k) texts)) (sym (append_assoc text.now (joined (take k texts)) (get_or texts k d).now)))

-- Behind some texts that were written, a beginning of the next one is one of all the texts.
pub begun_at : (d : Bor (List ℕ)) (texts : List (Bor (List ℕ))) (k : ℕ) (old mid new : Option (List ℕ)) → k < length texts → Appends old mid (joined (take k texts)) → IsBegun (get_or texts k d).now mid new → IsBegun (joined texts) old new
begun_at d texts k old mid new within wrote begun =
    subst (λ (t : List ℕ). IsBegun t old new) (sym (joined_at d texts k within))
    (begun_more (joined (take k texts) ++ (get_or texts k d).now) (joined (drop (suc k) texts)) old new
    (begun_behind (joined (take k texts) ++ (get_or texts k d).now) (joined (take k texts)) (get_or texts k d).now old mid new refl wrote begun))

pub failed_written : {W T E : Type 0} (w : Writer W) (text : List ℕ) (old : W) (result : Result T E) (new : W) → IsErr result → IsBegun text (w.written old) (w.written new) → w.has_failed new ≡ true → IsWritten w text old result new
failed_written w text old (Ok done) new is begun failed = absurd (false≢true is)
failed_written w text old (Err e) new is begun failed = (begun, failed)

-- What a write of the whole line gives.
pub line_written : {W T E : Type 0} (w : Writer W) (why : Fault) (text : List ℕ) (old : W) (result : Result T E) (new : W) → line_of why ≡ Some text
    → OnOk result (Appends (w.written old) (w.written new) text) → OnErr result (IsBegun text (w.written old) (w.written new)) → OnErr result (w.has_failed new ≡ true) → IsLineWritten w why old result new
line_written w why text old (Ok done) new line whole begun failed other is = subst (λ (t : List ℕ). Appends (w.written old) (w.written new) t) (ap (λ o. unwrap_or o []) (sym line ∙ is)) whole
line_written w why text old (Err e) new line whole begun failed other is = (subst (λ (t : List ℕ). IsBegun t (w.written old) (w.written new)) (ap (λ o. unwrap_or o []) (sym line ∙ is)) begun, failed)

-- The same of a write in parts.
pub parts_written : {W T E : Type 0} (w : Writer W) (why : Fault) (text : List ℕ) (old : W) (result : Result T E) (new : W) → line_of why ≡ Some text → IsWritten w text old result new → IsLineWritten w why old result new
parts_written w why text old result new line wrote other is = subst (λ (t : List ℕ). IsWritten w t old result new) (ap (λ o. unwrap_or o []) (sym line ∙ is)) wrote
