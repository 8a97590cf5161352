use Rattle.std.proofs.Common.{refl, lit<}
use Rattle.sp_text.specs.Text.{items_of, Spells}
use Rattle.sp_text.specs.Lines.{lines}
use Rattle.sp_text.proofs.FaultlessText.{accepted}
use Rattle.sp_text.specs.Formats.{ranges_of}
use Rattle.sp_replay.specs.ReplayFormat.{replay}
use Rattle.sp_replay.proofs.Legal.{is_programme, steps_in}
use Rattle.sp_replay.proofs.replays.read_replay.Goals as goal

pub file_of-requires : goal.file_of-requires
file_of-requires g c =
    let found = c.in-Ok.ensures.found in
    let spells : Spells replay (ranges_of g.row.P) found.0 found.2.0 (items_of replay (lines found.0)) = record { faultless = found.1; problem_line = found.2.1; item_lines = refl } in
    (lit< tt, (lit< tt, (c.requires, is_programme g.row.P found.2.0 _ _ _ (accepted replay (ranges_of g.row.P) _ _ _ spells) found.2.2)))

pub returns-in-Ok-clause-found : goal.returns-in-Ok-clause-found
returns-in-Ok-clause-found g c =
    let found = c.in-Ok.ensures.found in
    record {
      text = found.0;
      problem = found.2.0;
      lines = items_of replay (lines found.0);
      spelled = record { faultless = found.1; problem_line = found.2.1; item_lines = refl };
      says = rw (c.file_of.ensures.programme, c.file_of.ensures.steps) found.2.2;
    }

pub returns-in-Ok-clause-steps : goal.returns-in-Ok-clause-steps
returns-in-Ok-clause-steps g c =
    let found = c.in-Ok.ensures.found in
    let spells : Spells replay (ranges_of g.row.P) found.0 found.2.0 (items_of replay (lines found.0)) = record { faultless = found.1; problem_line = found.2.1; item_lines = refl } in
    rw (c.file_of.ensures.programme, c.file_of.ensures.steps) (steps_in g.row.P found.2.0 _ _ _ (accepted replay (ranges_of g.row.P) _ _ _ spells) found.2.2)
