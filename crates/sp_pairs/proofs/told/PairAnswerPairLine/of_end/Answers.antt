use Rattle.std.proofs.Common.{◌≡◌, length, rules}
use Rattle.sp_word.specs.Word.{max_dist}
use Rattle.sp_pairs.proofs.NearPairs.{found_word}
use Rattle.sp_pairs.proofs.told.PairAnswerPairLine.of_end.Goals as goal

pub returns : goal.returns
returns g c =
    let one : length c.args.end.later.items ≡ 1 = search rules in
    λ graph is. found_word graph (max_dist g.row.P) c.args.end one is
