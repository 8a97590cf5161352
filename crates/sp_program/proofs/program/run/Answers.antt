use Rattle.std.proofs.Common.{◌≡◌, refl, ap, map, None, string_bytes, rules}
use Rattle.sp_program.proofs.Leaving.{carried_as, given_is_run, memory_is_run, unread_is_run}
use Rattle.sp_program.proofs.program.run.Goals as goal

pub returns-in-Ok-clause-obeyed : goal.returns-in-Ok-clause-obeyed
returns-in-Ok-clause-obeyed g c = given_is_run c.in-Ok.ensures.told (carried_as (ap (λ words. map string_bytes words) c.deref.ensures.value) c.run_given.ensures.obeyed)

pub returns-in-Err-clause-obeyed : goal.returns-in-Err-clause-obeyed
returns-in-Err-clause-obeyed g c = memory_is_run refl c.tell_memory.ensures.status c.tell_memory.ensures.told

pub returns-in-Err-2-clause-obeyed : goal.returns-in-Err-2-clause-obeyed
returns-in-Err-2-clause-obeyed g c =
    let unknown : g.S.System.given c.args.disk.now.system ≡ None = search rules in
    unread_is_run unknown refl c.tell_unread.ensures.status c.tell_unread.ensures.told
