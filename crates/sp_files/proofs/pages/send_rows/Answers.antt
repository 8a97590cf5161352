use Rattle.std.proofs.Common.{◌∙◌}
use Rattle.sp_files.proofs.SentRows.{last_part, more_sent}
use Rattle.sp_files.proofs.pages.send_rows.Goals as goal

pub loop-rest-preserved : goal.loop-rest-preserved
loop-rest-preserved g c = record {
  page = c.put_rows-start.auto.bytes ∙ c.loop-rest.invariant.page;
  sent = more_sent _ _ c.loop-rest.invariant.sent c.parted-group.ensures.text (rw (last_part c.put_rows-start.result c.put_rows-start.new.bytes _ c.put_rows-start.ensures.within c.put_rows-start.ensures.text) at c.print_text.ensures);
}
