use Rattle.std.proofs.Common.{◌++◌, Ok, inl, ◌∙◌, sym, refl, subst, append_assoc}
use Rattle.std.proofs.KnownBytes.{Consumes-trans}
use Rattle.sp_dimacs.specs.LineReading.{RunTaken}
use Rattle.sp_text.proofs.LineCuts.{no_lf_both}
use Rattle.sp_dimacs.proofs.LineSteps.{came_on, came_behind}
use Rattle.sp_dimacs.proofs.lines.read_line.Goals as goal

pub returns-in-Err-clause-read : goal.returns-in-Err-clause-read
returns-in-Err-clause-read g c =
    let before = c.loop-kind.invariant in
    let long = c.in-Err.ensures.taken in
    let room = c.loop-kind.room in
    let behind = came_behind (c.args.piece.now ++ before.0) room c.loop-kind.piece long.1 (room ++ long.1) long.2 before.2 long.4 refl in
    (before.0, before.1, inl (long.0, room ++ long.1, long.2, no_lf_both room long.1 before.3 long.3, behind, long.5))

pub loop-kind-preserved : goal.loop-kind-preserved
loop-kind-preserved g c =
    let before = c.loop-kind.invariant in
    let run = subst (λ b. RunTaken c.loop-kind.piece c.loop-kind.room (Ok b) c.take_run.new.piece c.take_run.new.room) c.in-Ok-false.field-0-test c.in-Ok-false.ensures.taken in
    let next = c.refill.new.self in (
      before.0 ++ next,
      Consumes-trans (g.R.Read.left c.args.reader.now) (g.R.Read.left c.loop-kind.reader) (g.R.Read.left c.refill.new.reader) before.0 next before.1 c.in-Ok.ensures.bytes,
      sym (append_assoc c.args.piece.now before.0 next) ∙ came_on (c.args.piece.now ++ before.0) c.loop-kind.room c.loop-kind.piece c.take_run.new.room next before.2 run.2,
      rw run.2 (no_lf_both c.loop-kind.room c.loop-kind.piece before.3 run.0),
    )
