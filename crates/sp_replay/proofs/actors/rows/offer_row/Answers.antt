use Rattle.std.proofs.Common.{rules}
use Rattle.sp_replay.proofs.Making.{items_more, items_all}
use Rattle.sp_replay.proofs.actors.rows.offer_row.Goals as goal

pub loop-item-preserved : goal.loop-item-preserved
loop-item-preserved g c = record {
  table = search rules;
  made =
      items_more c.args.programme.now c.args.actor c.loop-item.place c.in-Some.item c.loop-item.caller.story c.offer_item.new.caller.story
      c.loop-item.invariant.made (search rules) c.offer_item.ensures.falls c.offer_item.ensures.made;
}

pub returns-clause-made : goal.returns-clause-made
returns-clause-made g c =
    items_all c.args.programme.now c.args.actor c.loop-item.place c.loop-item.caller.story c.loop-item.invariant.made (search rules)
