-- Tables of words for runs from several sources.
use Rattle.std.specs.Prelude.{◌≡◌, ℕ, List, length}
use Rattle.sp_word.specs.Word.{Word}
use Rattle.sp_paths.specs.Paths.{Graph, word_at}
use Rattle.sp_judge.specs.Passing.{IsSmallTable}
use Rattle.sp_paths.specs.Forests.{IsTableFrom, IsFinished}

-- The table has n words within max; they come from walks from the sources, and each source has its own pair.
pub record IsTableOfAny (g : Graph) (sources : List ℕ) (max : ℕ) (words : List Word) : Type 0 where
  pub size : length words ≡ g.n
  pub small : IsSmallTable max words
  pub table : IsTableFrom g sources (word_at words)

-- The table has n words, and every arc is relaxed.
pub record IsFinishedTableOfAny (g : Graph) (sources : List ℕ) (max : ℕ) (words : List Word) : Type 0 where
  pub size : length words ≡ g.n
  pub small : IsSmallTable max words
  pub finished : IsFinished g sources max (word_at words)
