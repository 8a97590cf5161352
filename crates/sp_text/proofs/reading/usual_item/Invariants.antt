use Rattle.std.proofs.Common.{◌≡◌, [], drop, map}
use Rattle.sp_text.specs.Lines.{fields_from}
use Rattle.sp_text.specs.Formats.{form_of}
use Rattle.sp_text.specs.Text.{item_reading}
use Rattle.sp_text.proofs.reading.usual_item.Given as goal

abbrev pub invariant-loop-place : goal.invariant-loop-place
invariant-loop-place l = item_reading 0 (map form_of l.format.items.now) (fields_from [] l.text) ≡ item_reading l.place (map form_of (drop l.place l.format.items.now)) (fields_from [] l.text)
