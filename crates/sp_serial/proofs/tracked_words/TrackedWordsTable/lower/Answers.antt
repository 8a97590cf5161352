use Rattle.std.proofs.Common.{sym, ◌∙◌}
use Rattle.sp_word.specs.Word.{max_dist}
use Rattle.sp_serial.proofs.Touching.{touched_by}
use Rattle.sp_serial.proofs.tracked_words.TrackedWordsTable.lower.Goals as goal

pub returns-clause-lowered : goal.returns-clause-lowered
returns-clause-lowered g c = rw c.note.ensures.words at c.relax.ensures.lowered

pub returns-clause-kept : goal.returns-clause-kept
returns-clause-kept g c =
    let before = c.note.new.tracked.words in
    let after = c.relax.new.words in
    touched_by (max_dist g.row.P) c.args.arc c.note.new.tracked.reached.items before.items after.items
    (rw (← c.note.ensures.words) at c.requires.arc) (sym after.ok.0 ∙ c.relax.ensures.size ∙ before.ok.0) c.note.ensures.tracked c.in_ok-note.ensures.among c.relax.ensures.lowered
