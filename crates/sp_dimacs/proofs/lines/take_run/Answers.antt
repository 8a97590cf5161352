use Rattle.std.proofs.Common.{◌≡◌, ◌+◌, ℕ, List, ◌∷◌, ◌++◌, length, drop, sym, ap, ◌∙◌}
use Rattle.sp_dimacs.proofs.LineSteps.{behind_lf}
use Rattle.sp_dimacs.proofs.lines.take_run.Goals as goal

pub returns-clause-taken : goal.returns-clause-taken
returns-clause-taken c =
    let line = c.in-Some.line.now in
    let more = c.in-Some.field-0-1.now in
    let whole : c.args.piece.now ≡ line ++ 10 ∷ more = sym c.bytes.ensures ∙ c.in-Some.ensures.1 in
    let left : c.skip.new.self ≡ more = c.skip.ensures ∙ (ap (drop (length line + 1)) whole ∙ behind_lf line more) in
    (line, c.in-Some.ensures.0, whole ∙ ap (λ (t : List ℕ). line ++ 10 ∷ t) (sym left), c.in_ok-extend_line-2.ensures.pushed)
