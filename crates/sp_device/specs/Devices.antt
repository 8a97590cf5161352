-- What a writer has taken.
use Rattle.std.specs.Prelude.{◌≡◌, ℕ, List, ◌++◌, Option}
use Rattle.std.specs.Io.KnownBytes.{Appends}

-- A prefix of the text was written after what had been written before.
pub record IsBegun (text : List ℕ) (old new : Option (List ℕ)) : Type 0 where
  pub part : List ℕ
  pub more : List ℕ
  pub parts : text ≡ part ++ more
  pub wrote : Appends old new part
