use Rattle.std.proofs.Common.{refl}
use Rattle.sp_dimacs.proofs.Given.{count_gave, refuse_gave}
use Rattle.sp_dimacs.proofs.lines.Lines.advance.Goals as goal

pub returns-in-Ok-clause-gave : goal.returns-in-Ok-clause-gave
returns-in-Ok-clause-gave g c = λ start given h.
    count_gave g.R.Read start given c.args.self.now
    (record { reader = c.read_line.new.reader; piece = c.read_line.new.piece; room = c.read_line.new.room; number = c.args.self.now.number; has_end = c.args.self.now.has_end; state = c.args.self.now.state })
    c.count.new.self c.in-Ok.has_end c.count.result h c.in-Going.is refl c.in-Going.is c.in-Ok.ensures.read c.in-Ok.ensures.short c.count.ensures

pub returns-in-Err-clause-gave : goal.returns-in-Err-clause-gave
returns-in-Err-clause-gave g c = λ start given h.
    refuse_gave g.R.Read start given c.args.self.now
    (record { reader = c.read_line.new.reader; piece = c.read_line.new.piece; room = c.read_line.new.room; number = c.args.self.now.number; has_end = c.args.self.now.has_end; state = c.args.self.now.state })
    c.refuse.new.self c.in-Err.kind c.refuse.result h c.in-Going.is refl c.in-Err.ensures.read c.refuse.ensures.line c.refuse.ensures.refused
