use Rattle.sp_word.specs.Word.{max_dist}
use Rattle.sp_offer.specs.Order.{lawful}
use Rattle.sp_team.proofs.Later.{later_along}
use Rattle.sp_team.proofs.team.+workers.Goals as goal

pub returns : goal.returns
returns g t c =
    let law = lawful g.row.P (g.L.Lawful.allows c.args.table.now.law) in
    let sooner = c.join-later.ensures.second in
    let later = c.join-later.ensures.first in record {
      later = later_along law _ _ _ c.part-first.ensures.first (later_along law _ _ _ sooner.0 c.merge.ensures.later);
      marks = c.merge.ensures.marks (max_dist g.row.P) c.args.graph.now sooner.1 later.1;
    }
