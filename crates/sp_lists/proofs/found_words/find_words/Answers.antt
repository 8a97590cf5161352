use Rattle.std.proofs.Common.{◌≡◌, ℕ, List, Option, subst}
use Rattle.sp_word.specs.Word.{Word}
use Rattle.sp_paths.specs.Paths.{Graph}
use Rattle.sp_answer.specs.Run.{AreForestWords, AreRunWords, until_of}
use Rattle.sp_answer.specs.declared.asked.Until.{Until}
use Rattle.sp_answer.proofs.ForestWords.{forest_size, forest_up_to, too_far}
use Rattle.sp_lists.proofs.found_words.find_words.Goals as goal

-- A run up to a limit was asked.
told : (P : ℕ) (g : Graph) (sources : List ℕ) (limit : Option ℕ) (until : Until) (words : List Word) (far other : Option ℕ) → until ≡ until_of limit → far ≡ other → AreRunWords P g sources until words far → AreForestWords P g sources limit words other
told P g sources limit until words far other asked is are =
    let U : Until → Type 0 = λ u. AreRunWords P g sources u words far in
    subst (AreForestWords P g sources limit words) is (subst U asked are)

pub returns-in-None : goal.returns-in-None
returns-in-None g c =
    let P = g.row.P in
    let graph = c.args.graph.now in
    let sources = c.args.sources.now in
    let limit = c.args.limit in
    let words = c.in_ok-found.found.words.items in
    let are = told P graph sources limit _ words _ _ c.up_to-until.ensures c.in-None.is c.in_ok-found.ensures.words in record {
      size = forest_size P graph sources limit words c.words_within.result.items _ c.words_within.ensures are;
      forest = forest_up_to P graph sources limit words c.words_within.result.items c.words_within.ensures are;
      refused = tt;
    }

pub returns-in-Some-clause-refused : goal.returns-in-Some-clause-refused
returns-in-Some-clause-refused g c =
    let words = c.in_ok-found.found.words.items in
    too_far g.row.P c.args.graph.now c.args.sources.now c.args.limit words c.in-Some.beyond (told g.row.P c.args.graph.now c.args.sources.now c.args.limit _ words _ _ c.up_to-until.ensures c.in-Some.is c.in_ok-found.ensures.words)
