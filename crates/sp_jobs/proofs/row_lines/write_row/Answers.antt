use Rattle.std.proofs.Common.{◌≡◌, [], length, rules}
use Rattle.std.specs.List.{flat_map}
use Rattle.sp_device.proofs.TextSteps.{unsent}
use Rattle.sp_jobs.specs.Row.{line_text}
use Rattle.sp_jobs.proofs.Lines.{row_written, row_begun}
use Rattle.sp_jobs.proofs.row_lines.write_row.Goals as goal

pub returns-in-Ok : goal.returns-in-Ok
returns-in-Ok g c =
    let start = c.args.out.now in
    let row = c.args.row.now in
    let text = flat_map (line_text row.source) row.lines.items in
    let none = unsent g.W.Write start c.new-printer.result c.new-printer.ensures.block c.new-printer.ensures.count c.new-printer.ensures.going in
    let sends = rw c.deref.ensures.value at c.send_row.ensures in
    let sent = sends [] start none in
    let count : c.len.result ≡ length row.lines.items = search rules in
    row_written g.W.Write row start c.finish.new.out c.len.result c.count_far.result c.in-Ok.bytes count (rw c.deref-in-Ok.ensures.value at c.count_far.ensures) (c.in-Ok.ensures.written text start sent) (c.in-Ok.ensures.passed text start sent)

pub returns-in-Err : goal.returns-in-Err
returns-in-Err g c =
    let start = c.args.out.now in
    let row = c.args.row.now in
    let text = flat_map (line_text row.source) row.lines.items in
    let none = unsent g.W.Write start c.new-printer.result c.new-printer.ensures.block c.new-printer.ensures.count c.new-printer.ensures.going in
    let sends = rw c.deref.ensures.value at c.send_row.ensures in
    row_begun g.W.Write row start c.finish.new.out (c.in-Err.ensures.written text start (sends [] start none))
