-- The lines that tell faults on standard error.
use Rattle.std.specs.Prelude.{◌≡◌, ◌⊎◌, ℕ, Bool, true, ◌==◌, ◌&&◌, ◌||◌, nat_le, List, [], ◌∷◌, ◌++◌, Option, Some, None, Result, Ok, Err, codes, decimal}
use Rattle.std.specs.Borrow.{Bor}
use Rattle.std.specs.List.{concat, flat_map, list_all}
use Rattle.std.specs.Io.KnownBytes.{Appends}
use Rattle.sp_device.specs.declared.devices.Write.{Ghosts as Writer}
use Rattle.sp_device.specs.Devices.{IsBegun}
use Rattle.sp_text.specs.declared.faults.DimacsError.{DimacsError}
use Rattle.sp_text.specs.declared.faults.Kind.{Kind}
use Rattle.sp_text.specs.declared.faults.Kind.TheVariants as kind
use Rattle.sp_packed.specs.declared.faults.PackedFault.{PackedFault}
use Rattle.sp_packed.specs.declared.faults.PackedKind.{PackedKind}
use Rattle.sp_packed.specs.declared.faults.PackedKind.TheVariants as packed
use Rattle.sp_packed.specs.declared.faults.PackedField.TheVariants as field
use Rattle.sp_command.specs.declared.faults.FileKind.{FileKind}
use Rattle.sp_command.specs.declared.faults.FileKind.TheVariants as file
use Rattle.sp_command.specs.declared.faults.Fault.{Fault}
use Rattle.sp_command.specs.declared.faults.Fault.TheVariants as fault

-- ## The text of a line

-- The byte that ends a line.
abbrev pub newline : List ℕ
newline = 10 ∷ []

-- This is the word for a file of a kind.
abbrev pub word_of : FileKind → List ℕ
word_of file.Graph = codes "gr"
word_of file.Sources = codes "ss"
word_of file.Targets = codes "targets"
word_of file.Pairs = codes "pairs"
word_of file.Tree = codes "tree"
word_of file.Replay = codes "replay"
word_of file.Offers = codes "offers"

-- This is where standard input stands in the words of a command if it is its file of this kind, with no list of targets behind it.
abbrev pub place_of : FileKind → List ℕ
place_of file.Graph = codes "- .."
place_of file.Sources = codes ".. -"
place_of file.Targets = codes ".. -"
place_of file.Pairs = codes ".. -"
place_of file.Tree = codes ".. -"
place_of file.Replay = codes "-"
place_of file.Offers = codes "-"

-- These are the number and the name of a fault of a text.
abbrev pub name_of : Kind → List ℕ
name_of kind.LongLine = codes "1 LongLine"
name_of kind.BadLine = codes "2 BadLine"
name_of kind.NoProblem = codes "3 NoProblem"
name_of kind.SecondProblem = codes "4 SecondProblem"
name_of (kind.OutOfRange letter) = codes "5 OutOfRange "
name_of kind.TooMany = codes "6 TooMany"
name_of kind.TooFew = codes "7 TooFew"
name_of kind.Memory = codes "8 Memory"
name_of kind.Read = codes "9 Read"

-- This is the letter of the field that is out of range, for a fault that has one.
abbrev pub letter_of : Kind → List ℕ
letter_of (kind.OutOfRange letter) = letter ∷ []
letter_of _ = []

-- The line of a fault in a file's text names the file, the line, and what is wrong there.
abbrev pub input_line : FileKind → DimacsError → List ℕ
input_line file error = concat (codes "spt: " ∷ word_of file ∷ codes ": line " ∷ decimal error.line ∷ codes ": " ∷ name_of error.kind ∷ letter_of error.kind ∷ newline ∷ [])

-- These are the number and the name of a fault of a packed graph.
abbrev pub packed_name_of : PackedKind → List ℕ
packed_name_of packed.OtherForm = codes "10 OtherForm"
packed_name_of (packed.OutOfRange field) = codes "5 OutOfRange "
packed_name_of packed.OtherSum = codes "11 OtherSum"
packed_name_of packed.TooMany = codes "6 TooMany"
packed_name_of packed.TooFew = codes "7 TooFew"
packed_name_of packed.Memory = codes "8 Memory"
packed_name_of packed.Read = codes "9 Read"

-- This is the letter of the word that is out of range, for a fault that has one.
abbrev pub packed_letter_of : PackedKind → List ℕ
packed_letter_of (packed.OutOfRange field.Vertices) = codes "N"
packed_letter_of (packed.OutOfRange field.Arcs) = codes "M"
packed_letter_of (packed.OutOfRange field.End) = codes "E"
packed_letter_of (packed.OutOfRange field.Head) = codes "V"
packed_letter_of (packed.OutOfRange field.Length) = codes "W"
packed_letter_of _ = []

-- The line of a fault of a packed graph names the graph, the number of bytes before the word, and what is wrong there.
abbrev pub packed_line : PackedFault → List ℕ
packed_line error = concat (codes "spt: gr: byte " ∷ decimal error.at ∷ codes ": " ∷ packed_name_of error.kind ∷ packed_letter_of error.kind ∷ newline ∷ [])

-- This is the line of a fault, if its text is known: that of a fault of the words comes from `clap`.
abbrev pub line_of : Fault → Option (List ℕ)
line_of (fault.Usage error) = None
line_of fault.DeltaOutOfRange = Some (codes "spt: delta out of range" ++ newline)
line_of fault.LimitOutOfRange = Some (codes "spt: limit out of range" ++ newline)
line_of fault.InputTwice = Some (codes "spt: standard input twice" ++ newline)
line_of (fault.OutputIsInput file) = Some (codes "spt: output is an input" ++ newline)
line_of fault.NoPlaces = Some (codes "spt: sources are not A-B" ++ newline)
line_of (fault.CannotOpen file) = Some (concat (codes "spt: " ∷ word_of file ∷ codes ": cannot open" ∷ newline ∷ []))
line_of (fault.Input file error) = Some (input_line file error)
line_of (fault.Packed error) = Some (packed_line error)
line_of (fault.NoSuchVertex vertex kind) = Some (concat (codes "spt: source " ∷ decimal vertex ∷ codes ": no such vertex" ∷ newline ∷ []))
line_of fault.TooManySteps = Some (codes "spt: replay: more than 60 steps" ++ newline)
line_of fault.ToTerminal = Some (codes "spt: output is a terminal" ++ newline)
line_of fault.Memory = Some (codes "spt: memory" ++ newline)
line_of fault.WriteFailed = Some (codes "spt: write failed" ++ newline)
line_of fault.CannotWrite = Some (codes "spt: output: cannot write" ++ newline)

-- ## What is written

-- These texts follow one another.
abbrev pub joined : List (Bor (List ℕ)) → List ℕ
joined texts = flat_map (λ text. text.now) texts

-- Exactly the text was written; or the writer has failed, and a beginning of the text was written.
abbrev pub IsWritten : {W T E : Type 0} → Writer W → List ℕ → (old : W) → Result T E → (new : W) → Type 0
IsWritten w text old (Ok done) new = Appends (w.written old) (w.written new) text
IsWritten w text old (Err e) new = IsBegun text (w.written old) (w.written new) × (w.has_failed new ≡ true)

-- The same of the fault's line, if its text is known.
abbrev pub IsLineWritten : {W T E : Type 0} → Writer W → Fault → (old : W) → Result T E → (new : W) → Type 0
IsLineWritten w why old result new = (line : List ℕ) → line_of why ≡ Some line → IsWritten w line old result new

-- Something was perhaps written.
abbrev pub MayAppend : {W : Type 0} → Writer W → (old new : W) → Type 0
MayAppend w old new = (more : List ℕ) × Appends (w.written old) (w.written new) more

-- Nothing was written; or exactly the text was; or the writer has failed, and a beginning of the text was written.
abbrev pub MayShow : {W : Type 0} → Writer W → List ℕ → (old new : W) → Type 0
MayShow w text old new = (new ≡ old) ⊎ (Appends (w.written old) (w.written new) text ⊎ (IsBegun text (w.written old) (w.written new) × (w.has_failed new ≡ true)))

-- The byte is a line's end, or a character that a terminal shows.
abbrev pub is_plain : ℕ → Bool
is_plain byte = byte == 10 || nat_le 32 byte && nat_le byte 126

-- A text of bytes that are line ends or characters that a terminal can show.
abbrev pub IsPlain : List ℕ → Type 0
IsPlain text = list_all is_plain text ≡ true
