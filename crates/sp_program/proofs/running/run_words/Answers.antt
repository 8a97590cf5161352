use Rattle.std.proofs.Common.{◌≡◌, rules}
use Rattle.sp_program.proofs.running.run_words.Goals as goal

pub returns-clause-obeyed : goal.returns-clause-obeyed
returns-clause-obeyed g c =
    let disk_is : c.do_watched.new.work.3.now ≡ c.disk-1.given.0 = search rules in
    let out_is : c.do_watched.new.work.4.now ≡ c.out-1.given.0 = search rules in
    let err_is : c.do_watched.new.work.5.now ≡ c.err-1.given.0 = search rules in
    rw (disk_is, out_is, err_is) at c.do_watched.ensures.met.1.1.1.1.1.1
