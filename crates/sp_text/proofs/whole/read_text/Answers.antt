use Rattle.sp_text.proofs.DeviceBytes.{read_told, never_read}
use Rattle.sp_text.proofs.whole.read_text.Goals as goal

pub returns-clause-read : goal.returns-clause-read
returns-clause-read g c =
    read_told g.T.LineTaker.rules g.T.LineTaker.Spelled g.R.Read c.args.reader.now c.read_on.result c.read_on.new.reader g.met.T.LineTaker.silent c.read_on.ensures.read

pub returns-clause-never : goal.returns-clause-never
returns-clause-never g c = λ never.
    never_read (g.R.Read.has_failed c.read_on.new.reader) c.read_on.result (c.read_on.ensures.never never) (returns-clause-read g c)
