use Rattle.sp_text.specs.Text.{judge}
use Rattle.sp_text.specs.Collecting.{SpelledBy}
use Rattle.sp_text.specs.Silence.{judge_silent}
use Rattle.sp_text.proofs.DeviceBytes.{all_read, read_told, never_read}
use Rattle.sp_parts.proofs.groups.read_items_by.Goals as goal

pub returns-clause-read : goal.returns-clause-read
returns-clause-read g c =
    read_told (judge g.K.Keep.format g.K.Keep.ranges) (SpelledBy g.K.Keep.format g.K.Keep.Spelled) g.R.Read c.args.device.now c.read_alone.result c.read_alone.new.device (judge_silent g.K.Keep.format g.K.Keep.ranges) c.read_alone.ensures.read

pub returns-clause-never : goal.returns-clause-never
returns-clause-never g c = λ never.
    never_read (g.R.Read.has_failed c.read_alone.new.device) c.read_alone.result (c.read_alone.ensures.never never) (returns-clause-read g c)

pub returns-clause-exact : goal.returns-clause-exact
returns-clause-exact g c = λ text is.
    all_read (judge g.K.Keep.format g.K.Keep.ranges) (SpelledBy g.K.Keep.format g.K.Keep.Spelled) g.R.Read text c.args.device.now c.read_alone.result c.read_alone.new.device is c.read_alone.ensures.read
