use Rattle.std.proofs.Common.{rules}
use Rattle.sp_offer.proofs.Exchanges.{won_tries, lost_less, lost_on}
use Rattle.sp_offer.proofs.Trails.{found_first, found_more, found_won}
use Rattle.sp_offer.proofs.atomic_words.Words.lower.Goals as goal

pub loop-held-init : goal.loop-held-init
loop-held-init g c = let way = c.first_look-held.ensures.way in record {
  rests = search rules;
  same = search rules;
  way = way;
  trail = found_first _ way.layout _ _ way.offered _ _ _ _ _ way.is_word c.first_look-held.ensures.trail c.first_look-held.ensures.ends;
  done = c.first_look-held.ensures.done;
  goes_on = c.first_look-held.ensures.goes_on;
}

pub loop-held-smaller : goal.loop-held-smaller
loop-held-smaller g c = search (lost_less, rules)

pub loop-held-preserved : goal.loop-held-preserved
loop-held-preserved g c = record { rests = search rules; same = search rules; way = search (lost_on, rules); trail = search (found_more, rules); done = search rules; goes_on = search rules }

pub returns-then-found-held-clause-tries : goal.returns-then-found-held-clause-tries
returns-then-found-held-clause-tries g c = won_tries _ _ _ _ _ _ _ _ _ _ _ _ c.loop-held.invariant.way (search rules) c.exchange-found.ensures.step (search rules)

pub returns-then-found-held-clause-steps : goal.returns-then-found-held-clause-steps
returns-then-found-held-clause-steps g c = let way = c.loop-held.invariant.way in
    found_won _ way.layout _ _ way.offered _ _ _ _ _ _ _ _ c.loop-held.invariant.trail (search rules) (search rules) c.exchange-found.ensures.trail (search rules) (search rules)
