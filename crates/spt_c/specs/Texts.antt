-- What a call tells C about a text, and what the caller's slice then holds.
use Rattle.std.specs.Prelude.{◌≡◌, ◌<◌, ◌≤◌, ◌^◌, ◌⊎◌, ℕ, List, [], length, slice_get, Some, Result, Ok, Err}
use Rattle.sp_text.specs.declared.faults.DimacsError.{DimacsError}
use Rattle.sp_text.specs.declared.faults.Kind.{Kind}
use Rattle.sp_text.specs.declared.faults.Kind.TheVariants.{LongLine, BadLine, NoProblem, SecondProblem, OutOfRange, TooMany, TooFew, Memory, Read}
use Rattle.sp_text.specs.Formats.{ranges_of}
use Rattle.sp_text.specs.Text.{judge}
use Rattle.sp_text.specs.Feeding.{Refused, IsToldOf}
use Rattle.sp_paths.specs.declared.arc.Arc.{Arc}
use Rattle.sp_dimacs.specs.declared.graphs.GrFile.{GrFile}
use Rattle.sp_dimacs.specs.Formats.{gr}
use Rattle.sp_dimacs.specs.Graph.{SpellsGraph}
use Rattle.spt_c.specs.declared.arcs.SptArc.{SptArc}
use Rattle.spt_c.specs.declared.texts.SptText.{SptText}
use Rattle.spt_c.specs.declared.texts.TextAnswer.{TextAnswer}
use Rattle.spt_c.specs.declared.texts.TextAnswer.TheVariants.{Graph, FewPlaces, Fault, Long}

-- ## Numbers

-- These are the numbers of the kinds of faults, as in every message of the program.
abbrev pub kind_of : Kind → ℕ
kind_of LongLine = 1
kind_of BadLine = 2
kind_of NoProblem = 3
kind_of SecondProblem = 4
kind_of (OutOfRange letter) = 5
kind_of TooMany = 6
kind_of TooFew = 7
kind_of Memory = 8
kind_of Read = 9

-- This is the letter of the field, or 0 if the fault isn't about a field.
abbrev pub letter_of : Kind → ℕ
letter_of LongLine = 0
letter_of BadLine = 0
letter_of NoProblem = 0
letter_of SecondProblem = 0
letter_of (OutOfRange letter) = letter
letter_of TooMany = 0
letter_of TooFew = 0
letter_of Memory = 0
letter_of Read = 0

-- These are the numbers of the header.
abbrev pub text_of : TextAnswer → SptText
text_of (Graph n m) = record { status = 0; n = n; m = m; kind = 0; letter = 0; line = 0 }
text_of (FewPlaces n m) = record { status = 1; n = n; m = m; kind = 0; letter = 0; line = 0 }
text_of (Fault e) = record { status = 7; n = 0; m = 0; kind = kind_of e.kind; letter = letter_of e.kind; line = e.line }
text_of Long = record { status = 8; n = 0; m = 0; kind = 0; letter = 0; line = 0 }

-- ## Texts

-- This is the first fault of the text; or an arc for which there was no memory, where no line up to it has a fault.
abbrev pub IsFaultOf : (text : List ℕ) → DimacsError → Type 0
IsFaultOf text e = Refused (judge gr (ranges_of 32)) [] text e ⊎ IsToldOf (judge gr (ranges_of 32)) text e

-- The result of reading a text: its graph, or its first error.
abbrev pub GraphTold : (text : List ℕ) → Result GrFile DimacsError → Type 0
GraphTold text (Ok file) = SpellsGraph 32 text file
GraphTold text (Err e) = IsFaultOf text e

-- The first m arcs are at the front of the slice, and everything after them is unchanged.
pub record HasArcs (m : ℕ) (arcs : List Arc) (old new : List SptArc) : Type 0 where
  pub front : (k : ℕ) (a : Arc) → k < m → slice_get arcs k ≡ Some a → slice_get new k ≡ Some (record { tail = a.tail; head = a.head; len = a.len })
  pub rest : (k : ℕ) → m ≤ k → slice_get new k ≡ slice_get old k

-- The text spells this graph, with n vertices and m arcs.
pub record IsSpelled (text : List ℕ) (n m : ℕ) (file : GrFile) : Type 0 where
  pub spells : SpellsGraph 32 text file
  pub vertices : n ≡ file.n
  pub arcs : m ≡ length file.arcs.items

-- The answer is correct, and the slice holds what it says.
abbrev pub IsRead : (text : List ℕ) → (old new : List SptArc) → TextAnswer → Type 0
IsRead text old new (Graph n m) = (file : GrFile) × IsSpelled text n m file × HasArcs m file.arcs.items old new
IsRead text old new (FewPlaces n m) = (file : GrFile) × IsSpelled text n m file × (length old < m) × (new ≡ old)
IsRead text old new (Fault e) = IsFaultOf text e × (new ≡ old)
IsRead text old new Long = (2 ^ 62 < length text) × (new ≡ old)
