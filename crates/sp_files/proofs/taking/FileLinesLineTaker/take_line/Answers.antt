use Rattle.sp_files.proofs.TakenLines.{taken}
use Rattle.sp_files.proofs.taking.FileLinesLineTaker.take_line.Goals as goal

pub returns-in-Problem : goal.returns-in-Problem
returns-in-Problem g c = λ before h.
    taken g.V.FileContent.form before c.args.line.now c.args.self.now c.begin.new.self _ c.begin.result c.args.self.now.layout h (rw c.in-Problem.is at c.in-Some.ensures) c.begin.ensures

pub returns-in-Row : goal.returns-in-Row
returns-in-Row g c = λ before h.
    taken g.V.FileContent.form before c.args.line.now c.args.self.now c.add.new.self _ c.add.result c.args.self.now.layout h (rw c.in-Row.is at c.in-Some.ensures) c.add.ensures

pub returns-in-End : goal.returns-in-End
returns-in-End g c = λ before h.
    taken g.V.FileContent.form before c.args.line.now c.args.self.now c.close.new.self _ c.close.result c.args.self.now.layout h (rw c.in-End.is at c.in-Some.ensures) c.close.ensures
