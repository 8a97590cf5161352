use Rattle.std.proofs.Common.{refl, arith}
use Rattle.sp_files.proofs.SentRows.{more_sent}
use Rattle.sp_files.proofs.trees.word_sharing.send_words_by.Goals as goal

pub loop-rest-preserved : goal.loop-rest-preserved
loop-rest-preserved g c = record {
  room = omega (arith, c.loop-rest.invariant.room, c.loop-rest.invariant.same, c.send_and_make.ensures.spare);
  same = omega (arith, c.loop-rest.invariant.same, c.send_and_make.ensures.ready, c.send_and_make.ensures.spare);
  sent = more_sent _ _ c.loop-rest.invariant.sent (rw (c.parted.ensures.text, c.send_and_make.ensures.made) refl) c.send_and_make.ensures.sends;
}
