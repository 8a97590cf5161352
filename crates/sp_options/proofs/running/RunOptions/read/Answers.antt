use Rattle.std.proofs.Common.{Result, Ok, Err, IfErr, inr, refl, ap}
use Rattle.clap.specs.Matches.{found_of}
use Rattle.sp_options.proofs.Crews.{lacks_crew, is_found, none_found}
use Rattle.sp_options.proofs.running.RunOptions.read.Goals as goal

where_err : {T E : Type 0} (result : Result T E) (Q : Type 0) → Q → IfErr result (λ e. Q)
where_err (Ok value) Q q = tt
where_err (Err e) Q q = q

pub returns-in_err-workers-clause-refused : goal.returns-in_err-workers-clause-refused
returns-in_err-workers-clause-refused c = where_err _ _ (inr (lacks_crew (found_of c.args.given.now) _ c.in-Some-Some.ensures' (λ workers spelled. none_found _ workers refl (c.in_err-workers.ensures.exactly workers spelled))))

pub returns-in_default-3-clause-read : goal.returns-in_default-3-clause-read
returns-in_default-3-clause-read c = inr (lacks_crew (found_of c.args.given.now) _ c.in-Some-Some.ensures' (λ workers spelled. none_found _ workers (ap (λ r. is_found {E = Unit {0}} (Ok r)) c.in_default-3.is) (c.in_ok-workers.ensures.exactly workers spelled)))
