use Rattle.std.proofs.Common.{refl, inl, inr}
use Rattle.std.proofs.lemmas.Result.{err_from_is_err_and}
use Rattle.sp_command.specs.Scene.{scene}
use Rattle.sp_tools.proofs.Limits.{says_of}
use Rattle.sp_tools.proofs.check.CheckCommandRunnable.run.Goals as goal

pub returns-in_err-all-clause-answered : goal.returns-in_err-all-clause-answered
returns-in_err-all-clause-answered g c =
    let residual = c.from_residual-in_err-all in
    let p = err_from_is_err_and residual.result residual.ensures.1 in
    let limit = c.in_ok-limit.ensures {u = tt} in
    let before = g.W.Write.written c.args.out.now in
    let s = scene (g.F.Inputs.files c.args.files.now) before before (g.W.Write.has_failed c.args.out.now) in
    rw (p.1, p.2) (says_of g.row.P c.args.self.now c.in_ok-limit.limit s _ limit.limit limit.exactly (λ gr tree texts. rw c.if-self.true (inl (c.in_err-all.ensures.refused gr tree texts, refl))) tt)

pub returns-in_err-write_verdicts-clause-answered : goal.returns-in_err-write_verdicts-clause-answered
returns-in_err-write_verdicts-clause-answered g c =
    let residual = c.from_residual-in_err-write_verdicts in
    let p = err_from_is_err_and residual.result residual.ensures.1 in
    let begun = rw c.deref.ensures.value at c.in_err-write_verdicts.ensures in
    let limit = c.in_ok-limit.ensures {u = tt} in
    let s = scene (g.F.Inputs.files c.args.files.now) (g.W.Write.written c.args.out.now) (g.W.Write.written c.write_verdicts.new.out) (g.W.Write.has_failed c.write_verdicts.new.out) in
    rw (p.1, p.2) (says_of g.row.P c.args.self.now c.in_ok-limit.limit s _ limit.limit limit.exactly (λ gr tree texts. rw c.if-self.true (inr (refl, begun.1, (c.in_ok-all.all.items, c.in_ok-all.ensures.judged gr tree texts, begun.0)))) tt)

pub returns-then-self-clause-answered : goal.returns-then-self-clause-answered
returns-then-self-clause-answered g c =
    let wrote = rw c.deref.ensures.value at c.in_ok-write_verdicts.ensures in
    let status = rw c.deref-then-self.ensures.value at c.status_of.ensures.exact in
    let found = c.in_ok-all.ensures.found in
    let limit = c.in_ok-limit.ensures {u = tt} in
    let s = scene (g.F.Inputs.files c.args.files.now) (g.W.Write.written c.args.out.now) (g.W.Write.written c.write_verdicts.new.out) (g.W.Write.has_failed c.write_verdicts.new.out) in
    says_of g.row.P c.args.self.now c.in_ok-limit.limit s _ limit.limit limit.exactly (λ gr tree texts. rw c.if-self.true (c.in_ok-all.all.items, c.in_ok-all.ensures.judged gr tree texts, wrote.0, status))
    (rw c.if-self.true (found.0, found.1, (c.in_ok-all.all.items, found.2, wrote.0, status)))

pub returns-in_err-verdict-clause-answered : goal.returns-in_err-verdict-clause-answered
returns-in_err-verdict-clause-answered g c =
    let residual = c.from_residual-in_err-verdict in
    let p = err_from_is_err_and residual.result residual.ensures.1 in
    let limit = c.in_ok-limit.ensures {u = tt} in
    let before = g.W.Write.written c.args.out.now in
    let s = scene (g.F.Inputs.files c.args.files.now) before before (g.W.Write.has_failed c.args.out.now) in
    rw (p.1, p.2) (says_of g.row.P c.args.self.now c.in_ok-limit.limit s _ limit.limit limit.exactly (λ gr tree texts. rw c.if-self.false (inl (c.in_err-verdict.ensures.refused gr tree texts, refl))) tt)

pub returns-in_err-write_verdict-clause-answered : goal.returns-in_err-write_verdict-clause-answered
returns-in_err-write_verdict-clause-answered g c =
    let residual = c.from_residual-in_err-write_verdict in
    let p = err_from_is_err_and residual.result residual.ensures.1 in
    let limit = c.in_ok-limit.ensures {u = tt} in
    let s = scene (g.F.Inputs.files c.args.files.now) (g.W.Write.written c.args.out.now) (g.W.Write.written c.write_verdict.new.out) (g.W.Write.has_failed c.write_verdict.new.out) in
    rw (p.1, p.2) (says_of g.row.P c.args.self.now c.in_ok-limit.limit s _ limit.limit limit.exactly
    (λ gr tree texts. rw c.if-self.false (inr (refl, c.in_err-write_verdict.ensures.1, (c.in_ok-verdict.verdict, c.in_ok-verdict.ensures.judged gr tree texts, c.in_err-write_verdict.ensures.0)))) tt)

pub returns-clause-answered : goal.returns-clause-answered
returns-clause-answered g c =
    let found = c.in_ok-verdict.ensures.found in
    let limit = c.in_ok-limit.ensures {u = tt} in
    let s = scene (g.F.Inputs.files c.args.files.now) (g.W.Write.written c.args.out.now) (g.W.Write.written c.write_verdict.new.out) (g.W.Write.has_failed c.write_verdict.new.out) in
    says_of g.row.P c.args.self.now c.in_ok-limit.limit s _ limit.limit limit.exactly (λ gr tree texts. rw c.if-self.false (c.in_ok-verdict.verdict, c.in_ok-verdict.ensures.judged gr tree texts, c.in_ok-write_verdict.ensures.0, c.status.ensures.exact))
    (rw c.if-self.false (found.0, found.1, (c.in_ok-verdict.verdict, found.2, c.in_ok-write_verdict.ensures.0, c.status.ensures.exact)))
