use Rattle.std.proofs.Common.{Result, Ok, Err, IfErr, inr, refl, ap}
use Rattle.clap.specs.Matches.{found_of}
use Rattle.sp_options.proofs.Crews.{lacks_crew, is_found, none_found}
use Rattle.sp_tools.proofs.pack.PackCommandCommand.read.Goals as goal

of_each : {T E : Type 0} (result : Result T E) (Says : E → Type 0) → ((e : E) → Says e) → IfErr result Says
of_each (Ok value) Says says = tt
of_each (Err e) Says says = says e

pub returns-in_err-workers-clause-refused : goal.returns-in_err-workers-clause-refused
returns-in_err-workers-clause-refused c = of_each _ _ (λ e. inr (inr (lacks_crew (found_of c.args.given.now) _ c.in-Some-Some.ensures' (λ workers spelled. none_found _ workers refl (c.in_err-workers.ensures.exactly workers spelled)))))

pub returns-in_default-2-clause-read : goal.returns-in_default-2-clause-read
returns-in_default-2-clause-read c = inr (lacks_crew (found_of c.args.given.now) _ c.in-Some-Some.ensures' (λ workers spelled. none_found _ workers (ap (λ r. is_found {E = Unit {0}} (Ok r)) c.in_default-2.is) (c.in_ok-workers.ensures.exactly workers spelled)))
