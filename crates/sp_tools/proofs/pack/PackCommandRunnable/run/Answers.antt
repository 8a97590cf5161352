use Rattle.std.proofs.Common.{◌∙◌, true, refl, inr, subst}
use Rattle.std.proofs.lemmas.Result.{err_from_is_err_and}
use Rattle.std.specs.Io.KnownBytes.{Appends}
use Rattle.sp_device.specs.Devices.{IsBegun}
use Rattle.sp_tools.proofs.Texts.{same_packed}
use Rattle.sp_tools.proofs.pack.PackCommandRunnable.run.Goals as goal

pub returns-in_err-write_packed-clause-answered : goal.returns-in_err-write_packed-clause-answered
returns-in_err-write_packed-clause-answered g c =
    let residual = c.from_residual-in_err-write_packed in
    let p = err_from_is_err_and residual.result residual.ensures.1 in
    let begun = c.in_err-write_packed.ensures.written in
    let old = g.W.Write.written c.args.out.now in
    let new = g.W.Write.written c.write_packed.new.out in
    rw (p.1, p.2) (record {
      shown = λ is. let same = c.is_shown.ensures true is in let none = c.if-is_shown.false in absurd (cc);
      told = λ text known.
          let is = c.in_ok-graph.ensures.graph text (c.new-gr.ensures.left ∙ c.new.ensures.left ∙ c.in_ok-device.ensures.opened.gives text known) in
          inr (inr (refl, begun.1, (is.graph, is.spelled, subst (λ t. IsBegun t old new) (same_packed is) begun.0)));
      of_some = tt;
    })

pub returns-clause-answered : goal.returns-clause-answered
returns-clause-answered g c =
    let wrote = c.in_ok-write_packed.ensures.written in
    let old = g.W.Write.written c.args.out.now in
    let new = g.W.Write.written c.write_packed.new.out in
    let found = c.in_ok-graph.ensures.found in
    record {
      shown = λ is. let same = c.is_shown.ensures true is in let none = c.if-is_shown.false in absurd (cc);
      told = λ text known.
          let is = c.in_ok-graph.ensures.graph text (c.new-gr.ensures.left ∙ c.new.ensures.left ∙ c.in_ok-device.ensures.opened.gives text known) in
          inr (is.graph, is.spelled, subst (λ t. Appends old new t) (same_packed is) wrote.0, refl);
      of_some = (found.0, (found.1.graph, found.1.spelled, subst (λ t. Appends old new t) (same_packed found.1) wrote.0, refl));
    }
