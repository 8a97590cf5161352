use Rattle.std.proofs.Common.{refl, lit<}
use Rattle.sp_text.specs.Text.{items_of, Spells}
use Rattle.sp_text.specs.Lines.{lines}
use Rattle.sp_text.proofs.FaultlessText.{accepted}
use Rattle.sp_text.specs.Formats.{ranges_of}
use Rattle.sp_replay.specs.ReplayFormat.{offers}
use Rattle.sp_replay.proofs.Legal.{are_offers}
use Rattle.sp_replay.proofs.offers.read_offers.Goals as goal

pub new-requires-in-Ok-2 : goal.new-requires-in-Ok-2
new-requires-in-Ok-2 g c =
    let found = c.in-Ok.ensures.found in
    let spells : Spells offers (ranges_of g.row.P) found.0 found.2.0 (items_of offers (lines found.0)) = record { faultless = found.1; problem_line = found.2.1; item_lines = refl } in
    (lit< tt, (lit< tt, (lit< tt, (c.requires, rw c.new-in-Ok.ensures.items (are_offers g.row.P found.2.0 _ _ (accepted offers (ranges_of g.row.P) _ _ _ spells) found.2.2)))))
