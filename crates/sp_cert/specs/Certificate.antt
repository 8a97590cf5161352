-- The results of the checks of trees and forests.
use Rattle.std.specs.Prelude.{◌≡◌, ℕ, Option, Some, None, Result, Ok, Err}
use Rattle.sp_word.specs.Word.{max_dist}
use Rattle.sp_paths.specs.Paths.{Graph}
use Rattle.sp_answer.specs.Table.{TreeTable, table_of}
use Rattle.sp_answer.specs.ForestTable.{ForestTable}
use Rattle.sp_cert.specs.declared.rule.Rule.{Rule}
use Rattle.sp_cert.specs.declared.rule.Rule.TheVariants.{Size}
use Rattle.sp_cert.specs.declared.fault.BrokenRule.{BrokenRule as Failure}
use Rattle.sp_cert.specs.declared.checking.CheckError.{CheckError}
use Rattle.sp_cert.specs.declared.checking.CheckError.TheVariants.{Fault, Memory}
use Rattle.sp_cert.specs.Claims.{Claim, claim_of_tree, claim_of_forest}
use Rattle.sp_cert.specs.Rules.{Fails, IsTreeOf, IsPartOfTree, IsCounted, IsFirstFault}
use Rattle.sp_cert.specs.Faults.{IsFirstOf}

-- The tree has the graph's size, its table is the shortest-path tree of its source, and no vertex is too far for words
-- with P bits for the predecessor.
abbrev pub IsCertified : (P : ℕ) → Graph → TreeTable → Type 0
IsCertified P g t = IsTreeOf g (max_dist P) t.n t.source (table_of t)

-- The tree has the graph's size, and its table is the part of the shortest-path tree of its source within the limit.
abbrev pub IsCertifiedWithin : (limit : ℕ) → Graph → TreeTable → Type 0
IsCertifiedWithin limit g t = IsPartOfTree g limit t.n t.source (table_of t)

-- The reported fault is the first one of the claim.
abbrev pub TellsFirst : Graph → (max : ℕ) → (sized : Type 0) → Claim → CheckError → Type 0
TellsFirst g max sized c (Fault v rule) = IsFirstFault g max sized c v rule
TellsFirst g max sized c Memory = Unit {0}

-- The reported fault is the first one of the tree, without a limit or with one.
abbrev pub TellsFaultUpTo : (P : ℕ) → (limit : Option ℕ) → Graph → TreeTable → CheckError → Type 0
TellsFaultUpTo P limit g t error = TellsFirst g (max_dist P) (t.n ≡ g.n) (claim_of_tree t limit) error

-- The reported fault is the first one of the tree, without a limit.
abbrev pub TellsFault : (P : ℕ) → Graph → TreeTable → CheckError → Type 0
TellsFault P g t error = TellsFaultUpTo P None g t error

-- The reported fault is the first one of the forest.
abbrev pub TellsForestFault : (P : ℕ) → (count : ℕ) → (limit : Option ℕ) → Graph → ForestTable → CheckError → Type 0
TellsForestFault P count limit g f error = TellsFirst g (max_dist P) (IsCounted g f count) (claim_of_forest f limit) error

-- ## Faults

-- These are the faults of a tree.
abbrev pub FailsOfTree : (P : ℕ) → (limit : Option ℕ) → Graph → TreeTable → (v : ℕ) → Rule → Type 0
FailsOfTree P limit g t v rule = Fails g (max_dist P) (t.n ≡ g.n) (claim_of_tree t limit) v rule

-- These are the faults of a forest.
abbrev pub FailsOfForest : (P : ℕ) → (count : ℕ) → (limit : Option ℕ) → Graph → ForestTable → (v : ℕ) → Rule → Type 0
FailsOfForest P count limit g f v rule = Fails g (max_dist P) (IsCounted g f count) (claim_of_forest f limit) v rule

-- This is the fault of wrong sizes.
abbrev pub wrong_size : Option Failure
wrong_size = Some (record { vertex = 0; rule = Size })

-- This is the result, given the earliest fault, if there is one.
abbrev pub answer_of : Option Failure → Result (Unit {0}) CheckError
answer_of None = Ok tt
answer_of (Some f) = Err (Fault f.vertex f.rule)

-- The result is the earliest of these faults, or that there is none, unless there is no memory.
abbrev pub IsAnswer : (ℕ → Rule → Type 0) → Result (Unit {0}) CheckError → Type 0
IsAnswer F (Ok done) = IsFirstOf F None
IsAnswer F (Err (Fault v rule)) = IsFirstOf F (Some (record { vertex = v; rule = rule }))
IsAnswer F (Err Memory) = Unit {0}
