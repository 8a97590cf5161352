use Rattle.std.proofs.Common.{◌++◌}
use Rattle.sp_device.proofs.TextSteps.{pushed}
use Rattle.sp_files.specs.TreeText.{end_text}
use Rattle.sp_files.proofs.common_lines.write_end.Goals as goal

pub returns : goal.returns
returns g c = record {
  ends = λ front start sent.
      let last = end_text c.args.rows in
      let all = pushed g.W.Write front last start c.make_room.new.out c.make_room.new.printer c.push_end.new.block (c.make_room.ensures.sends front start sent) c.push_end.ensures in
      (c.finish.ensures.written (front ++ last) start all, c.finish.ensures.passed (front ++ last) start all);
}
