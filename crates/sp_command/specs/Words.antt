-- How the layouts of a word are spelled.
use Rattle.std.specs.Prelude.{◌≡◌, ℕ, List, Result, Ok, IfOk, codes}
use Rattle.sp_command.specs.declared.layout.PredBits.{PredBits}
use Rattle.sp_command.specs.declared.layout.PredBits.TheVariants.{Bits20, Bits24, Bits28, Bits32}
use Rattle.sp_command.specs.declared.layout.NoPredBits.{NoPredBits}

-- This is the number of bits of predecessor.
abbrev pub bits_in : PredBits → ℕ
bits_in Bits20 = 20
bits_in Bits24 = 24
bits_in Bits28 = 28
bits_in Bits32 = 32

-- The text that names a layout on the command line.
abbrev pub spelling_of : PredBits → List ℕ
spelling_of Bits20 = codes "20"
spelling_of Bits24 = codes "24"
spelling_of Bits28 = codes "28"
spelling_of Bits32 = codes "32"

-- A text is accepted exactly if it is a spelling.
pub record ReadsSpelling (text : List ℕ) (result : Result PredBits NoPredBits) : Type 0 where
  pub spelled : IfOk result (λ bits. text ≡ spelling_of bits)
  pub read : (bits : PredBits) → text ≡ spelling_of bits → result ≡ Ok bits
