use Rattle.std.proofs.Common.{ap}
use Rattle.sp_command.proofs.LineSteps.{line_written, parts_written}
use Rattle.sp_command.specs.Lines.{line_of}
use Rattle.sp_command.proofs.faults.Fault.write_line.Goals as goal

pub returns-in-TooManySteps : goal.returns-in-TooManySteps
returns-in-TooManySteps g c = let wrote = c.write_all-in-TooManySteps in line_written g.W.Write _ _ _ _ _ (ap line_of c.in-TooManySteps.is) wrote.ensures.written wrote.ensures.begun wrote.ensures.failed

pub returns-in-Memory : goal.returns-in-Memory
returns-in-Memory g c = let wrote = c.write_all-in-Memory in line_written g.W.Write _ _ _ _ _ (ap line_of c.in-Memory.is) wrote.ensures.written wrote.ensures.begun wrote.ensures.failed

pub returns-in-WriteFailed : goal.returns-in-WriteFailed
returns-in-WriteFailed g c = let wrote = c.write_all-in-WriteFailed in line_written g.W.Write _ _ _ _ _ (ap line_of c.in-WriteFailed.is) wrote.ensures.written wrote.ensures.begun wrote.ensures.failed

pub returns-in-CannotWrite : goal.returns-in-CannotWrite
returns-in-CannotWrite g c = let wrote = c.write_all-in-CannotWrite in line_written g.W.Write _ _ _ _ _ (ap line_of c.in-CannotWrite.is) wrote.ensures.written wrote.ensures.begun wrote.ensures.failed

pub returns-in-CannotOpen : goal.returns-in-CannotOpen
returns-in-CannotOpen g c = parts_written g.W.Write _ _ _ _ _ (ap line_of c.in-CannotOpen.is) (rw (← c.word.ensures, ← c.as_bytes.ensures.value) c.write_texts.ensures)

pub returns-in-NoSuchVertex : goal.returns-in-NoSuchVertex
returns-in-NoSuchVertex g c = parts_written g.W.Write _ _ _ _ _ (ap line_of c.in-NoSuchVertex.is) (rw (← c.format.ensures.text, ← c.as_bytes-number.ensures.value) c.write_texts-in-NoSuchVertex.ensures)
