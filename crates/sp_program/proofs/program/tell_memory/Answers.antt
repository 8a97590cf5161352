use Rattle.sp_command.specs.declared.faults.Fault.TheVariants.{Memory}
use Rattle.sp_program.proofs.Leaving.{line_is_told}
use Rattle.sp_program.proofs.program.tell_memory.Goals as goal

pub returns-clause-told : goal.returns-clause-told
returns-clause-told g c = line_is_told g.E.Write Memory c.args.err.now c.write_line.result c.write_line.new.out c.write_line.ensures
