use Rattle.sp_replay.proofs.Making.{actors_joined}
use Rattle.sp_replay.proofs.actors.threads.+actors.Goals as goal

pub returns-clause-made : goal.returns-clause-made
returns-clause-made g t c =
    actors_joined c.args.programme.now c.args.before _ c.args.last _ _ _ c.join.result.story c.join.ensures.story
    c.join-later.ensures.second.1 c.join-later.ensures.first.1
