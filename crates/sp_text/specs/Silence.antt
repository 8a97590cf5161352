-- No line of a format is reported with the fault of a device.
use Rattle.std.proofs.Common.{◌≢◌, ℕ, Bool, true, false, cond, List, [], Option, Some, None}
use Rattle.std.specs.Prelude.{nat_lt, nat_le}
use Rattle.sp_text.specs.declared.faults.Kind.{Kind}
use Rattle.sp_text.specs.declared.faults.Kind.TheVariants.{TooMany, TooFew, Read}
use Rattle.sp_text.specs.declared.formats.Ranges.{Ranges}
use Rattle.sp_text.specs.First.{IsSilent}
use Rattle.sp_text.specs.Formats.{Format}
use Rattle.sp_text.specs.Text.{ItemLine, Reading, Comment, Bad, IsProblem, IsItem, first_out, out_or, top, count, item_out, too_many, problem_fault, placed_fault, reading_fault, reading, problem_of, items_of, fault, missing_of, missing, judge}

out_silent : (out : Option ℕ) (later : Option Kind) → later ≢ Some Read → out_or out later ≢ Some Read
out_silent None later silent h = silent h
out_silent (Some letter) later silent h = cc

many_silent : (b : Bool) → cond b (Some TooMany) None ≢ Some Read
many_silent true h = cc
many_silent false h = cc

few_silent : (b : Bool) → cond b (Some TooFew) None ≢ Some Read
few_silent true h = cc
few_silent false h = cc

none_silent : ◌≢◌ {A = Option Kind} None (Some Read)
none_silent h = cc

problem_silent : (format : Format) (ranges : Ranges) (problem : Option (List ℕ)) (ns : List ℕ) → problem_fault format ranges problem ns ≢ Some Read
problem_silent format ranges None ns h = out_silent (first_out ranges [] format.problem.fields ns) None none_silent h
problem_silent format ranges (Some ps) ns h = cc

placed_silent : (ranges : Ranges) (problem : Option (List ℕ)) (before : List ItemLine) (item : ItemLine) → placed_fault ranges problem before item ≢ Some Read
placed_silent ranges None before item h = cc
placed_silent ranges (Some ps) before item h =
    out_silent (item_out ranges ps before item) (too_many ranges ps before item) (many_silent (nat_le (top ranges ps item.form.limit) (count item.form.group before))) h

reading_silent : (format : Format) (ranges : Ranges) (problem : Option (List ℕ)) (before : List ItemLine) (r : Reading) → reading_fault format ranges problem before r ≢ Some Read
reading_silent format ranges problem before Comment h = cc
reading_silent format ranges problem before Bad h = cc
reading_silent format ranges problem before (IsProblem ns) h = problem_silent format ranges problem ns h
reading_silent format ranges problem before (IsItem item) h = placed_silent ranges problem before item h

fault_silent : (format : Format) (ranges : Ranges) (before : List (List ℕ)) (line : List ℕ) → fault format ranges before line ≢ Some Read
unfolding fault
fault_silent format ranges before line h = reading_silent format ranges (problem_of format before) (items_of format before) (reading format line) h

missing_of_silent : (format : Format) (ranges : Ranges) (problem : Option (List ℕ)) (items : List ItemLine) → missing_of format ranges problem items ≢ Some Read
missing_of_silent format ranges None items h = cc
missing_of_silent format ranges (Some ps) items h = few_silent (nat_lt (count 0 items) (top ranges ps format.needed)) h

missing_silent : (format : Format) (ranges : Ranges) (all : List (List ℕ)) → missing format ranges all ≢ Some Read
unfolding missing
missing_silent format ranges all h = missing_of_silent format ranges (problem_of format all) (items_of format all) h

pub judge_silent : (format : Format) (ranges : Ranges) → IsSilent (judge format ranges)
judge_silent format ranges = record { fault = fault_silent format ranges; missing = missing_silent format ranges }
