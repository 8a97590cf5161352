-- The network spelled by a text, of lines or packed.
use Rattle.std.specs.Prelude.{◌≡◌, ℕ, Bool, true, false, List, [], Option, Some, Result, Ok, Err, IfOk, IfErr}
use Rattle.sp_word.specs.Word.{max_pred}
use Rattle.sp_device.specs.Failing.{Failing, Never}
use Rattle.sp_paths.specs.declared.arc.Arc.{Arc}
use Rattle.sp_paths.specs.Paths.{Graph}
use Rattle.sp_text.specs.declared.faults.Kind.TheVariants.{Read as LineRead}
use Rattle.sp_dimacs.specs.declared.formats.TheConstants.{MOST_ARCS, MOST_ARCS_BOTH_WAYS}
use Rattle.sp_dimacs.specs.declared.graphs.GrFile.{GrFile}
use Rattle.sp_dimacs.specs.Graph.{SpellsUpTo, ReadUpTo, IsNetworkUpTo, graph_of}
use Rattle.sp_packed.specs.declared.faults.PackedKind.TheVariants.{Read as WordRead}
use Rattle.sp_packed.specs.Packed.{is_packed, packed_text, IsPackable, IsWithin}
use Rattle.sp_packed.specs.Faults.{PackedRead}
use Rattle.sp_network.specs.declared.faults.NetworkFault.{NetworkFault}
use Rattle.sp_network.specs.declared.faults.NetworkFault.TheVariants.{Text, Packed}
use Rattle.sp_network.specs.declared.directions.Direction.{Direction}
use Rattle.sp_network.specs.declared.directions.Direction.TheVariants.{AsGiven, Towards, BothWays}
use Rattle.sp_network.specs.Turned.{turned, with_turned}

-- ## Directions

-- These are the arcs as they are, each turned round, or each followed by the same arc turned round.
abbrev pub directed_arcs : Direction → List Arc → List Arc
directed_arcs AsGiven arcs = arcs
directed_arcs Towards arcs = turned arcs
directed_arcs BothWays arcs = with_turned arcs

-- This is the graph with its arcs as they are, turned, or both.
abbrev pub directed : Direction → Graph → Graph
directed way g = record { n = g.n; arcs = directed_arcs way g.arcs }

-- This is how many arcs a text may announce, given their direction.
abbrev pub most_of : Direction → ℕ
most_of AsGiven = MOST_ARCS
most_of Towards = MOST_ARCS
most_of BothWays = MOST_ARCS_BOTH_WAYS

-- ## Texts

-- The text is the packed text of the file's graph, which is within the limit of the layout and has at most `most` arcs.
pub record SpellsPacked (P most : ℕ) (text : List ℕ) (file : GrFile) : Type 0 where
  pub packable : IsPackable (graph_of file)
  pub within : IsWithin (max_pred P) most (graph_of file)
  pub is : packed_text (graph_of file) ≡ text

-- The text spells the file's graph in words, or in lines.
abbrev pub SpellsAs : (packed : Bool) → (P most : ℕ) → List ℕ → GrFile → Type 0
SpellsAs true P most text file = SpellsPacked P most text file
SpellsAs false P most text file = SpellsUpTo P most text file

-- The text spells the file's graph, which has at most `most` arcs, in the form that its first byte shows.
abbrev pub SpellsNetwork : (P most : ℕ) → List ℕ → GrFile → Type 0
SpellsNetwork P most text file = SpellsAs (is_packed text) P most text file

-- This is the result for the whole text of a device, part of which may be left, by the rules of one form.
abbrev pub ReadAs : (packed : Bool) → (P most : ℕ) → (text : List ℕ) → (left : Option (List ℕ)) → (has_failed : Bool) → Result GrFile NetworkFault → Type 0
ReadAs packed P most text left has_failed (Ok file) = (left ≡ Some []) × SpellsAs packed P most text file
ReadAs packed P most text left has_failed (Err (Text e)) = (packed ≡ false) × ReadUpTo P most text left has_failed (Err e)
ReadAs packed P most text left has_failed (Err (Packed e)) = (packed ≡ true) × PackedRead (max_pred P) most text left has_failed (Err e)

-- The device has failed before any byte came.
pub record NoneCame (text : List ℕ) (left : Option (List ℕ)) (has_failed : Bool) : Type 0 where
  pub whole : left ≡ Some text
  pub failed : has_failed ≡ true

-- This is the result for the whole text of a device, part of which may be left. The text may announce at most `most` arcs.
-- All of it was read, and spells this network; or this is its fault by the rules of the form that its first byte shows. If no
-- byte came, the fault is that of a text of lines.
abbrev pub NetworkRead : (P most : ℕ) → (text : List ℕ) → (left : Option (List ℕ)) → (has_failed : Bool) → Result GrFile NetworkFault → Type 0
NetworkRead P most text left has_failed (Ok file) = (left ≡ Some []) × SpellsNetwork P most text file
NetworkRead P most text left has_failed (Err (Text e)) = (is_packed text ≡ true → NoneCame text left has_failed) × ReadUpTo P most text left has_failed (Err e)
NetworkRead P most text left has_failed (Err (Packed e)) = (is_packed text ≡ true) × PackedRead (max_pred P) most text left has_failed (Err e)

-- The fault is that of the device.
abbrev pub IsOfDevice : NetworkFault → Type 0
IsOfDevice (Text e) = e.kind ≡ LineRead
IsOfDevice (Packed e) = e.kind ≡ WordRead

-- What is known of the result for a text of one form, given what was left of it before and after.
pub record Answered (packed : Bool) (P most : ℕ) (old new : Option (List ℕ)) (has_failed : Bool) (failing : Failing) (result : Result GrFile NetworkFault) : Type 0 where
  pub exact : (text : List ℕ) → old ≡ Some text → ReadAs packed P most text new has_failed result
  pub found : IfOk result (λ file. (text : List ℕ) × SpellsNetwork P most text file)
  pub network : IfOk result (IsNetworkUpTo P most)
  pub read : IfErr result (λ fault. IsOfDevice fault → has_failed ≡ true)
  pub never : failing ≡ Never → IfErr result (λ fault. IsOfDevice fault → ⊥)
