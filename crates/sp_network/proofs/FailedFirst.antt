-- A device that fails before any byte came.
use Rattle.std.proofs.Common.{inr, ◌≡◌, ℕ, Bool, true, List, [], Option, Some, None, Err, refl, ap, ◌∙◌, arith}
use Rattle.std.specs.Io.KnownBytes.{Keeps}
use Rattle.sp_text.specs.declared.faults.Kind.TheVariants.{Read}
use Rattle.sp_text.specs.Formats.{ranges_of}
use Rattle.sp_text.specs.Lines.{ended, rest}
use Rattle.sp_text.specs.Text.{judge}
use Rattle.sp_text.specs.First.{Judge, first_after, fault_so_far, fault_at_failure}
use Rattle.sp_dimacs.specs.Formats.{gr_up_to}
use Rattle.sp_network.specs.declared.faults.NetworkFault.TheVariants.{Text}
use Rattle.sp_network.specs.Network.{NetworkRead}

some_same : (xs ys : List ℕ) → Some xs ≡ Some ys → xs ≡ ys
some_same xs ys e = grind (arith, e)

kept : (old new : Option (List ℕ)) (text : List ℕ) → Keeps old new → old ≡ Some text → new ≡ Some text
kept None new text keeps is = cc
kept (Some old) None text keeps is = absurd keeps
kept (Some old) (Some new) text keeps is = ap (λ l. Some l) (keeps ∙ some_same old text is)

first_fault : (rules : Judge) → fault_at_failure rules [] ≡ Some (record { line = 1; kind = Read })
unfolding fault_at_failure fault_so_far first_after ended rest
first_fault rules = refl

-- Its fault is that of a text of lines.
pub read_failed : (P most : ℕ) (old new : Option (List ℕ)) (has_failed : Bool) → Keeps old new → has_failed ≡ true
    → (text : List ℕ) → old ≡ Some text → NetworkRead P most text new has_failed (Err (Text (record { line = 1; kind = Read })))
read_failed P most old new has_failed keeps failed text is =
    let left = kept old new text keeps is in
    ((λ yes. record { whole = left; failed = failed }), ([], text, refl, left, inr (inr (failed, first_fault (judge (gr_up_to most) (ranges_of P))))))
