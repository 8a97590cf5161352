use Rattle.std.proofs.Common.{refl, inl, inr}
use Rattle.std.proofs.lemmas.Result.{err_from_is_err_and}
use Rattle.sp_command.specs.Scene.{scene}
use Rattle.sp_tools.specs.ReplayAnswers.{IsDrawn, IsReplayed}
use Rattle.sp_tools.proofs.Texts.{replay_spelled, undrawn, unread}
use Rattle.sp_tools.proofs.replay.ReplayCommandRunnable.run.Goals as goal

pub returns-in_err-reader-clause-answered : goal.returns-in_err-reader-clause-answered
returns-in_err-reader-clause-answered g c =
    let p = err_from_is_err_and c.from_residual.result c.from_residual.ensures.1 in
    let before = g.W.Write.written c.args.out.now in
    let s = scene (g.F.Inputs.files c.args.files.now) before before (g.W.Write.has_failed c.args.out.now) in
    rw (p.1, p.2, c.in_err-reader.ensures.closed.0) (record { told = λ text known. unread g.row.P c.args.self.now.svg text s _ tt refl; of_some = tt })

pub returns-in-Err-clause-answered : goal.returns-in-Err-clause-answered
returns-in-Err-clause-answered g c =
    let before = g.W.Write.written c.args.out.now in
    let s = scene (g.F.Inputs.files c.args.files.now) before before (g.W.Write.has_failed c.args.out.now) in
    rw c.fault.ensures (record {
      told = λ text known.
          unread g.row.P c.args.self.now.svg text s _ (g.F.File.Read.left c.read_replay.new.reader, g.F.File.Read.has_failed c.read_replay.new.reader, c.in-Err.ensures.exact text (c.in_ok-reader.ensures.opened.gives text known)) refl;
      of_some = tt;
    })

pub returns-in_err-picture-clause-answered : goal.returns-in_err-picture-clause-answered
returns-in_err-picture-clause-answered g c =
    let residual = c.from_residual-in_err-picture in
    let p = err_from_is_err_and residual.result residual.ensures.1 in
    let before = g.W.Write.written c.args.out.now in
    let s = scene (g.F.Inputs.files c.args.files.now) before before (g.W.Write.has_failed c.args.out.now) in
    rw (p.1, p.2) (record {
      told = λ text known.
          rw c.if-self.true (undrawn g.row.P text s c.in-Ok.file c.in_err-picture.field-0.0 (replay_spelled text (g.F.File.Read.left c.read_replay.new.reader) (g.F.File.Read.has_failed c.read_replay.new.reader) c.in-Ok.file (c.in-Ok.ensures.exact text (c.in_ok-reader.ensures.opened.gives text known))) refl c.in_err-picture.ensures.many);
      of_some = tt;
    })

pub returns-in_err-write_picture-clause-answered : goal.returns-in_err-write_picture-clause-answered
returns-in_err-write_picture-clause-answered g c =
    let residual = c.from_residual-in_err-write_picture in
    let p = err_from_is_err_and residual.result residual.ensures.1 in
    rw (p.1, p.2) (record {
      told = λ text known.
          let spelled = replay_spelled text (g.F.File.Read.left c.read_replay.new.reader) (g.F.File.Read.has_failed c.read_replay.new.reader) c.in-Ok.file (c.in-Ok.ensures.exact text (c.in_ok-reader.ensures.opened.gives text known)) in
          let drawn : IsDrawn {P = g.row.P} text c.in_ok-picture.picture = record { file = c.in-Ok.file; spelled = spelled; few = c.in_ok-picture.ensures.few; is = c.in_ok-picture.ensures.picture } in
          rw c.if-self.true (inl (inr (refl, c.in_err-write_picture.ensures.1, (c.in_ok-picture.picture, drawn, c.in_err-write_picture.ensures.0))));
      of_some = tt;
    })

pub returns-then-self-clause-answered : goal.returns-then-self-clause-answered
returns-then-self-clause-answered g c = record {
  told = λ text known.
      let spelled = replay_spelled text (g.F.File.Read.left c.read_replay.new.reader) (g.F.File.Read.has_failed c.read_replay.new.reader) c.in-Ok.file (c.in-Ok.ensures.exact text (c.in_ok-reader.ensures.opened.gives text known)) in
      let drawn : IsDrawn {P = g.row.P} text c.in_ok-picture.picture = record { file = c.in-Ok.file; spelled = spelled; few = c.in_ok-picture.ensures.few; is = c.in_ok-picture.ensures.picture } in
      rw c.if-self.true (c.in_ok-picture.picture, drawn, c.in_ok-write_picture.ensures.0, refl);
  of_some =
      let found = c.in-Ok.ensures.found in
      let drawn : IsDrawn {P = g.row.P} found.text c.in_ok-picture.picture = record { file = c.in-Ok.file; spelled = (found.problem, found.lines, found.spelled, found.says); few = c.in_ok-picture.ensures.few; is = c.in_ok-picture.ensures.picture } in
      rw c.if-self.true (found.text, (c.in_ok-picture.picture, drawn, c.in_ok-write_picture.ensures.0, refl));
}

pub returns-in_err-write_report-clause-answered : goal.returns-in_err-write_report-clause-answered
returns-in_err-write_report-clause-answered g c =
    let residual = c.from_residual-in_err-write_report in
    let p = err_from_is_err_and residual.result residual.ensures.1 in
    let is = rw c.deref.ensures.value at c.in_ok-report.ensures.report in
    rw (p.1, p.2) (record {
      told = λ text known.
          let spelled = replay_spelled text (g.F.File.Read.left c.read_replay.new.reader) (g.F.File.Read.has_failed c.read_replay.new.reader) c.in-Ok.file (c.in-Ok.ensures.exact text (c.in_ok-reader.ensures.opened.gives text known)) in
          let replayed : IsReplayed {P = g.row.P} text c.in_ok-report.report = record { file = c.in-Ok.file; spelled = spelled; is = is } in
          rw c.if-self.false (inr (refl, c.in_err-write_report.ensures.1, (c.in_ok-report.report, replayed, c.in_err-write_report.ensures.0)));
      of_some = tt;
    })

pub returns-clause-answered : goal.returns-clause-answered
returns-clause-answered g c =
    let is = rw c.deref.ensures.value at c.in_ok-report.ensures.report in
    record {
      told = λ text known.
          let spelled = replay_spelled text (g.F.File.Read.left c.read_replay.new.reader) (g.F.File.Read.has_failed c.read_replay.new.reader) c.in-Ok.file (c.in-Ok.ensures.exact text (c.in_ok-reader.ensures.opened.gives text known)) in
          let replayed : IsReplayed {P = g.row.P} text c.in_ok-report.report = record { file = c.in-Ok.file; spelled = spelled; is = is } in
          rw c.if-self.false (c.in_ok-report.report, replayed, c.in_ok-write_report.ensures.0, refl);
      of_some =
          let found = c.in-Ok.ensures.found in
          let replayed : IsReplayed {P = g.row.P} found.text c.in_ok-report.report = record { file = c.in-Ok.file; spelled = (found.problem, found.lines, found.spelled, found.says); is = is } in
          rw c.if-self.false (found.text, (c.in_ok-report.report, replayed, c.in_ok-write_report.ensures.0, refl));
    }

pub returns-in_err-report-clause-answered : goal.returns-in_err-report-clause-answered
returns-in_err-report-clause-answered g c =
    let residual = c.from_residual-in_err-report in
    let p = err_from_is_err_and residual.result residual.ensures.1 in
    let before = g.W.Write.written c.args.out.now in
    let s = scene (g.F.Inputs.files c.args.files.now) before before (g.W.Write.has_failed c.args.out.now) in
    rw (p.1, p.2) (record { told = λ text known. unread g.row.P c.args.self.now.svg text s _ tt refl; of_some = tt })
